-- From a table to the text that it was read from.
use Rattle.std.proofs.Common.{ℕ, true, List, Result, Ok, Err, ap, refl}
use Rattle.std.specs.Prelude.{IsOk}
use Rattle.gateway.specs.Config.{Settings}
use Rattle.toml.specs.Data.{Members}
use Rattle.settings.specs.Faults.{Path, IsWrongKeyOf, ◌>>=◌}
use Rattle.settings.specs.Live.{Places}
use Rattle.settings.specs.Settings.{Values, IsDocument, IsFirstFault, IsLiveReadOfText, IsReadFor}
use Rattle.settings.specs.Settings.{IsRootFault, IsReadOf, IsReadBy, known_live, known_with_ends}
use Rattle.settings.specs.declared.live.LiveSettings.{LiveSettings}
use Rattle.settings.specs.declared.fault.ConfigFault.{ConfigFault}
use Rattle.settings.specs.declared.fault.ConfigFault.TheVariants.{NotToml, Key, Unknown, NoMemory}

-- a fault of what is read first is one of the settings, if these go on with it
pub wrong_before : {A B : Type 0} (r : Result A Path) (more : A → Result B Path) (e : ConfigFault)
    → IsWrongKeyOf r e
    → IsWrongKeyOf (r >>= more) e
wrong_before r more NotToml h = absurd h
wrong_before r more (Key path) h = rw h
wrong_before r more (Unknown path) h = absurd h
wrong_before r more NoMemory h = tt

-- what is read from a root is read from the text that has it
pub read_text : {A V : Type 0} (known : Members → Result V Path) (see : A
    → V) (text : List ℕ) (root : Members) (r : Result A ConfigFault) → IsDocument text root
    → IsReadOf (known root) see root r → IsReadBy known see text r
read_text known see text root (Ok c) d h = (root, d, h.0, h.1)
read_text known see text root (Err NotToml) d h = absurd h
read_text known see text root (Err (Key path)) d h = (root, d, h)
read_text known see text root (Err (Unknown path)) d h = (root, d, h)
read_text known see text root (Err NoMemory) d h = tt

-- a text without a root has that fault
pub no_root : {A V : Type 0} (known : Members → Result V Path) (see : A → V) (text : List ℕ)
    (e : ConfigFault)
    → IsRootFault text e → IsReadBy known see text (Err e)
no_root known see text NotToml h = h
no_root known see text (Key path) h = absurd h
no_root known see text (Unknown path) h = absurd h
no_root known see text NoMemory h = tt

-- settings that were read with a live run's ends
pub without_ends : (text : List ℕ) (both : Settings × LiveSettings)
    → IsLiveReadOfText text (Ok both)
    → IsReadFor true text (Ok both.0)
without_ends text both h =
    (h.0, h.1, ap (λ (r : Result (Values × Places) Path). r >>= (λ b. Ok b.0)) h.2, h.3)

still_ok : (r : Result (Values × Places) Path) → IsOk r → IsOk (r >>= (λ both. Ok both.0))
still_ok (Ok both) h = refl
still_ok (Err path) h = cc

-- a fault of them is one of the settings
wrong_without : (root : Members) (e : ConfigFault) → IsFirstFault (known_live root) root e
    → IsFirstFault (known_with_ends root) root e
wrong_without root NotToml h = absurd h
wrong_without root (Key path) h = ap (λ (r : Result (Values × Places) Path). r >>= (λ b. Ok b.0)) h
wrong_without root (Unknown path) h = (still_ok (known_live root) h.0, h.1)
wrong_without root NoMemory h = tt

pub fault_without_ends : (text : List ℕ) (e : ConfigFault) → IsLiveReadOfText text (Err e)
    → IsReadFor true text (Err e)
fault_without_ends text NotToml h = h
fault_without_ends text (Key path) h = (h.0, h.1, wrong_without h.0 (Key path) h.2)
fault_without_ends text (Unknown path) h = (h.0, h.1, wrong_without h.0 (Unknown path) h.2)
fault_without_ends text NoMemory h = tt
