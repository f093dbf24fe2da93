use Rattle.std.proofs.Common.{◌≡◌, take}
use Rattle.std.specs.List.{flat_map}
use Rattle.sim.specs.declared.directive.Class.TheVariants.{One, Two}
use Rattle.sim.specs.Losses.{report_said}
use Rattle.sim.specs.Lives.{with_reports}
use Rattle.sim.proofs.beginning.report_all.Given as goal

abbrev pub invariant-loop-directive : goal.invariant-loop-directive
invariant-loop-directive l = l.station ≡ with_reports l.initial.station
    (flat_map (report_said l.index One) (take l.directive-index l.directives))
    (flat_map (report_said l.index Two) (take l.directive-index l.directives))
