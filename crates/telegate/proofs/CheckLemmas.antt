-- What is judged of settings.
use Rattle.std.proofs.Common.{◌≡◌, ℕ, Bool, true, false, List, Ok, sym, subst}
use Rattle.gateway.specs.Config.{Settings}
use Rattle.settings.specs.Settings.{IsLiveReadOfText, IsReadOfText}
use Rattle.settings.specs.declared.live.LiveSettings.{LiveSettings}
use Rattle.telegate.specs.Checks.{IsGoodFor}

-- settings that were read, as for a live run or not
pub good_live : (live : Bool) (config : List ℕ) (both : Settings × LiveSettings) → live ≡ true
    → IsLiveReadOfText config (Ok both) → IsGoodFor live config
good_live live config both is h = subst (λ (l : Bool). IsGoodFor l config) (sym is)
    (both.0, (both.1, h))

pub good_plain : (live : Bool) (config : List ℕ) (settings : Settings) → live ≡ false
    → IsReadOfText config (Ok settings) → IsGoodFor live config
good_plain live config settings is h = subst (λ (l : Bool). IsGoodFor l config) (sym is)
    (settings, h)
