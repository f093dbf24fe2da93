-- What a text says to the outstations: a script of `sim`, and lines for them alone (profile).
use Rattle.std.specs.Prelude.{min, List}
use Rattle.std.specs.Prelude.{Result, Ok, Err, Vec}
use Rattle.std.specs.List.{AllByRecursion}
use Rattle.std.specs.declared.alloc.Global.{Global}
use Rattle.gateway.specs.Config.{Settings}
use Rattle.sim.specs.Scripts.{FitsSettings}
use Rattle.sim.specs.declared.directive.Directive.{Directive}
use Rattle.traces.specs.declared.reading.TextFault.{TextFault}
use Rattle.traces.specs.declared.reading.TextFault.TheVariants.{Line, NoMemory}
use Rattle.sim.specs.Cues.{FitsLine}
use Rattle.sim.specs.declared.stations.cue.Cue.{Cue}
use Rattle.sim.specs.declared.stations.scenario.Scenario.{Scenario}

-- of two faults that of the first line
abbrev pub earlier_fault : TextFault → TextFault → TextFault
earlier_fault (Line n) (Line m) = Line (min n m)
earlier_fault one other = NoMemory

-- what is made of the answers of both readings
abbrev pub joined : Result (Vec Cue Global) TextFault → Result (List Directive) TextFault
    → Result Scenario TextFault
joined (Ok cues) (Ok script) = Ok (record { script = script; cues = cues })
joined (Ok cues) (Err fault) = Err fault
joined (Err fault) (Ok script) = Err fault
joined (Err one) (Err other) = Err (earlier_fault one other)

-- it fits the settings: its stations are there, and its reports fit the frames of the line
pub record FitsScenario (c : Settings) (s : Scenario) : Type 0 where
  pub script : FitsSettings c s.script
  pub lines : AllByRecursion (FitsLine c.line.link) s.cues.items
