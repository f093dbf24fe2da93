use Rattle.std.proofs.Common.{◌≡◌, ◌++◌, length}
use Rattle.std.specs.List.{AllByRecursion}
use Rattle.checkpoint.specs.Octets.{IsOctetLine}
use Rattle.events.specs.Queue.{kept}
use Rattle.events.proofs.Events.put_pieces.Given as goal

abbrev pub invariant-loop-piece : goal.invariant-loop-piece
invariant-loop-piece g l = record {
  written : g.S.Sheet.written l.sheet ++ l.left ≡ g.S.Sheet.written l.fn.sheet ++ kept l.fn.self;
  octets : AllByRecursion IsOctetLine l.left → AllByRecursion IsOctetLine (kept l.fn.self);
}

abbrev pub decreases-loop-piece : goal.decreases-loop-piece
decreases-loop-piece g l = length l.left
