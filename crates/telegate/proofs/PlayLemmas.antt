-- The answer to a play of outstations.
use Rattle.std.proofs.Common.{ℕ, List, inr}
use Rattle.std.specs.Prelude.{Err}
use Rattle.telegate.specs.Playing.{ArePlayedBy, AreSet, IsRead}
use Rattle.telegate.specs.Running.{IsLiveConfigFault}
use Rattle.telegate.specs.declared.fault.Fault.{Fault}
use Rattle.telegate.specs.declared.fault.Fault.TheVariants.{Config, Script, NoMemory}

-- the settings are refused
pub unset : (config text : List ℕ) (fault : Fault) → IsLiveConfigFault config fault
    → ArePlayedBy config text (Err fault)
unset config text (Config why) h = inr h
unset config text NoMemory h = inr tt
unset config text other h = absurd h

-- the script is
pub unscripted : (config text : List ℕ) (fault : Fault) → AreSet config → IsRead (Err fault)
    → ArePlayedBy config text (Err fault)
unscripted config text (Script n) set h = inr set
unscripted config text NoMemory set h = inr tt
unscripted config text other set h = absurd h
