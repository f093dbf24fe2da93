use Rattle.std.proofs.Common.{◌≡◌, ◌++◌, length}
use Rattle.command.proofs.restoring.ring_of.Given as goal

abbrev pub invariant-loop-item : goal.invariant-loop-item
invariant-loop-item g l = record {
  whole : l.left.items ++ l.ring.items ≡ l.fn.items.items;
  room : l.ring.capacity ≡ l.fn.most;
}

abbrev pub decreases-loop-item : goal.decreases-loop-item
decreases-loop-item g l = length l.left.items
