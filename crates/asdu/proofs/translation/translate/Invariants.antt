use Rattle.std.proofs.Common.{◌≡◌, ◌++◌, length, map}
use Rattle.asdu.specs.Reading.{value_of}
use Rattle.asdu.specs.Translation.{report_pieces}
use Rattle.asdu.proofs.translation.translate.Given as goal

abbrev pub invariant-loop-left : goal.invariant-loop-left
invariant-loop-left l = map (λ p. p.items) l.pieces.items ++ l.left
    ≡ report_pieces (value_of l.fn.asdu)

abbrev pub decreases-loop-left : goal.decreases-loop-left
decreases-loop-left l = length l.left
