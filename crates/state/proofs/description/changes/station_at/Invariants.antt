use Rattle.std.proofs.Common.{◌≡◌, length}
use Rattle.state.specs.ChangedSettings as spec
use Rattle.state.proofs.description.changes.station_at.Given as goal

abbrev pub invariant-loop-left : goal.invariant-loop-left
invariant-loop-left l = record {
  same : spec.station_at l.address l.left ≡ spec.station_at l.address l.stations;
}

abbrev pub decreases-loop-left : goal.decreases-loop-left
decreases-loop-left l = length l.left
