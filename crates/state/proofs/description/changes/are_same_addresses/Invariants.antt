use Rattle.std.proofs.Common.{◌≡◌, length}
use Rattle.state.specs.ChangedSettings as spec
use Rattle.state.proofs.description.changes.are_same_addresses.Given as goal

abbrev pub invariant-loop-left : goal.invariant-loop-left
invariant-loop-left l = record {
  same : spec.are_same_addresses l.left l.right ≡ spec.are_same_addresses l.kept l.now;
}

abbrev pub decreases-loop-left : goal.decreases-loop-left
decreases-loop-left l = length l.left
