use Rattle.std.proofs.Common.{◌≡◌, length}
use Rattle.state.specs.QueuedReports as spec
use Rattle.state.proofs.description.reports.station_of.Given as goal

abbrev pub invariant-loop-left : goal.invariant-loop-left
invariant-loop-left l = record {
  same : spec.station_of l.ca l.left ≡ spec.station_of l.ca l.stations;
}

abbrev pub decreases-loop-left : goal.decreases-loop-left
decreases-loop-left l = length l.left
