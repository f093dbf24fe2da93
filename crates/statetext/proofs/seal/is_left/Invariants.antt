use Rattle.std.proofs.Common.{◌≡◌, length}
use Rattle.statetext.specs.Sealed.{is_left}
use Rattle.statetext.proofs.seal.is_left.Given as goal

abbrev pub invariant-loop-of : goal.invariant-loop-of
invariant-loop-of l = is_left l.fn.of l.fn.text ≡ is_left l.of l.text

abbrev pub decreases-loop-of : goal.decreases-loop-of
decreases-loop-of l = length l.of
