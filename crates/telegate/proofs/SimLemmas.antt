-- Runs over a simulated line: what their ends say of the whole command.
use Rattle.std.proofs.Common.{ℕ, List, Option, inl, inr}
use Rattle.std.specs.Prelude.{Result, Ok, Err}
use Rattle.gateway.specs.Config.{Settings}
use Rattle.settings.specs.Settings.{IsReadOfText}
use Rattle.sim.specs.declared.directive.Directive.{Directive}
use Rattle.sim.specs.Scripts.{IsScriptOf}
use Rattle.telegate.specs.Answers.{IsSimulationOf, IsSimulatedBy}
use Rattle.telegate.specs.declared.fault.Fault.{Fault}
use Rattle.telegate.specs.declared.manner.Manner.{Manner}
use Rattle.telegate.specs.declared.fault.Fault.TheVariants.{Device, NoMemory}

-- the command, if its files were read
pub scripted : (manner : Manner) (config text : List ℕ) (c : Settings) (ds : List Directive)
    (old new : Option (List ℕ))
    (r : Result (Unit {0}) Fault) → IsReadOfText config (Ok c) → IsScriptOf c text (Ok ds)
    → IsSimulationOf manner c ds old new r → IsSimulatedBy manner config text old new r
scripted manner config text c ds old new (Ok done) read said h =
    record { settings = c; script = ds; read_config = read; read_script = said; so = h }
scripted manner config text c ds old new (Err Device) read said h =
    record { settings = c; script = ds; read_config = read; read_script = said; so = h }
scripted manner config text c ds old new (Err NoMemory) read said (inl h) = inl h
scripted manner config text c ds old new (Err NoMemory) read said (inr h) =
    inr (record { settings = c; script = ds; read_config = read; read_script = said; so = h })
scripted manner config text c ds old new (Err other) read said h = absurd h
