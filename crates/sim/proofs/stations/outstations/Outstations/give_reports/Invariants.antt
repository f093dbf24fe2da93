use Rattle.sim.specs.Reporting.{LinesReport}
use Rattle.sim.proofs.stations.outstations.Outstations.give_reports.Given as goal

abbrev pub invariant-loop-line : goal.invariant-loop-line
invariant-loop-line l = LinesReport l.passed l.line l.initial.self l.self
