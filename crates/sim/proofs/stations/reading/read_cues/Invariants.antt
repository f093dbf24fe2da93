use Rattle.std.specs.List.{AllByRecursion}
use Rattle.sim.specs.Cues.{FitsLine}
use Rattle.sim.proofs.stations.reading.read_cues.Given as goal

-- the lines that were read fit the line
abbrev pub invariant-loop-i : goal.invariant-loop-i
invariant-loop-i l = AllByRecursion (FitsLine l.size) l.cues.items
