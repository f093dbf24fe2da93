-- What the command that judges settings does (this gateway's own profile).
use Rattle.std.specs.Prelude.{◌≡◌, ◌⊎◌, ℕ, Bool, true, false, List, Option, Result, Ok, Err, Vec}
use Rattle.std.specs.declared.alloc.AllocError.{AllocError}
use Rattle.std.specs.declared.alloc.Global.{Global}
use Rattle.std.specs.Io.KnownBytes.{Appends, Keeps}
use Rattle.gateway.specs.Config.{Settings}
use Rattle.settings.specs.Settings.{IsLiveReadOfText, IsReadOfText}
use Rattle.settings.specs.declared.live.LiveSettings.{LiveSettings}
use Rattle.sim.specs.Runs.{IsBegun}
use Rattle.telegate.specs.Faults.{status_of}
use Rattle.telegate.specs.Given.{GivesAnswer, IsConfigFault, IsGood}
use Rattle.telegate.specs.Running.{IsLiveConfigFault}
use Rattle.telegate.specs.declared.check.Checking.{Checking}
use Rattle.telegate.specs.declared.fault.Fault.{Fault}
use Rattle.telegate.specs.declared.fault.Fault.TheVariants.{Config, Site}

-- the octets are settings without a fault; as for a live run, they say where its ends are
abbrev pub IsGoodFor : (live : Bool) → List ℕ → Type 0
IsGoodFor false config = (settings : Settings) × IsReadOfText config (Ok settings)
IsGoodFor true config =
    (settings : Settings) × ((ends : LiveSettings) × IsLiveReadOfText config (Ok (settings, ends)))

-- or they are refused by the first fault
abbrev pub IsCheckFault : (live : Bool) → List ℕ → Fault → Type 0
IsCheckFault false config fault = IsConfigFault config fault
IsCheckFault true config fault = IsLiveConfigFault config fault

-- The lines that explain a fault with this status were printed behind it, or a beginning of them if
-- the output failed; or memory was refused to them.
abbrev pub AreLinesGiven : Result (Vec ℕ Global) AllocError → (status : ℕ)
    → (old new : Option (List ℕ)) → (exit : ℕ) → Type 0
AreLinesGiven (Ok lines) status old new exit =
    (Appends old new lines.items × (exit ≡ status)) ⊎ (IsBegun old new lines.items × (exit ≡ 3))
AreLinesGiven (Err refused) status old new exit = Keeps old new × (exit ≡ 4)

-- the same of lines that say what is wrong and where
pub record HasExplained (old new : Option (List ℕ)) (exit : ℕ) : Type 0 where
  pub lines : List ℕ
  pub printed : (Appends old new lines × (exit ≡ 1)) ⊎ (IsBegun old new lines × (exit ≡ 3))

-- what is answered of a file with a fault, by whether an explanation is asked for
abbrev pub IsFileRefused : (explain : Bool) → (old new : Option (List ℕ)) → (exit : ℕ) → Type 0
IsFileRefused true old new exit = HasExplained old new exit ⊎ (Keeps old new × (exit ≡ 4))
IsFileRefused false old new exit = Keeps old new × (exit ≡ 1)

-- what is answered of a fault in these octets
abbrev pub IsRefusalAnswered : (explain : Bool) → List ℕ → Fault → (old new : Option (List ℕ))
    → (exit : ℕ) → Type 0
IsRefusalAnswered explain text (Config why) old new exit = IsFileRefused explain old new exit
IsRefusalAnswered explain text (Site why) old new exit = IsFileRefused explain old new exit
IsRefusalAnswered explain text fault old new exit = Keeps old new × (exit ≡ status_of fault)

pub record IsRefused (config : List ℕ) (how : Checking) (old new : Option (List ℕ)) (exit : ℕ)
    : Type 0 where
  pub fault : Fault
  pub is : IsCheckFault how.live config fault
  pub answered : IsRefusalAnswered how.explain config fault old new exit

pub record IsAccepted (config : List ℕ) (how : Checking) (old new : Option (List ℕ)) (exit : ℕ)
    : Type 0 where
  pub good : IsGoodFor how.live config
  pub given : GivesAnswer IsGood old new exit

-- settings without a fault are good, others are refused
abbrev pub IsCheckDone : List ℕ → Checking → (old new : Option (List ℕ)) → (exit : ℕ) → Type 0
IsCheckDone config how old new exit =
    IsAccepted config how old new exit ⊎ IsRefused config how old new exit
