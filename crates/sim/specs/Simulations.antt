-- What a run of a script has printed, and how that ends (this gateway's own profile).
use Rattle.std.specs.Prelude.{◌⊎◌, ◌++◌, ℕ, List, Option, Result, Ok, Err, MatchResult}
use Rattle.std.specs.Io.KnownBytes.{Appends, Keeps}
use Rattle.gateway.specs.Config.{Settings}
use Rattle.traces.specs.Pouring.{IsBegun}
use Rattle.sim.specs.declared.directive.Directive.{Directive}
use Rattle.sim.specs.declared.fault.SimFault.{SimFault}
use Rattle.sim.specs.declared.fault.SimFault.TheVariants.{NoMemory, Write}
use Rattle.sim.specs.Runs.{IsSimulated, IsCutShort, IsStopped}

-- If the output failed, a beginning of the whole run's text was printed. If memory was refused,
-- nothing was printed, or the run stopped, and a beginning of the lines of its actions was.
abbrev pub IsSimulationFault : Settings → List Directive → (old new : Option (List ℕ)) → SimFault
    → Type 0
IsSimulationFault c ds old new Write = IsCutShort c ds old new
IsSimulationFault c ds old new NoMemory = Keeps old new ⊎ IsStopped c ds old new

-- the run of a script ended so
abbrev pub IsSimulation : Settings → List Directive → (old new : Option (List ℕ))
    → Result (Unit {0}) SimFault → Type 0
IsSimulation c ds old new result =
    MatchResult result (λ done. IsSimulated c ds old new) (IsSimulationFault c ds old new)

-- Behind a text, of which so much was printed, a closing was printed; or the output failed, or
-- memory was refused before the closing.
abbrev pub IsClosedBy : (old new : Option (List ℕ)) → (text closing : List ℕ)
    → Result (Unit {0}) SimFault → Type 0
IsClosedBy old new text closing (Ok done) = Appends old new (text ++ closing)
IsClosedBy old new text closing (Err Write) = IsBegun old new (text ++ closing)
IsClosedBy old new text closing (Err NoMemory) = IsBegun old new text
