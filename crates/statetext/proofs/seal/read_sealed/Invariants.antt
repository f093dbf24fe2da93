use Rattle.std.proofs.Common.{◌≡◌, ℕ, ◌-◌, ◌≤◌, List, length}
use Rattle.statetext.specs.Sum.{remainder_after}
use Rattle.statetext.proofs.Reading.{IsReadTo}
use Rattle.statetext.proofs.seal.read_sealed.Given as goal

abbrev pub invariant-loop-n : goal.invariant-loop-n
invariant-loop-n l = (l.end ≤ length l.text)
    × ((head : List ℕ) → l.fn.sum.remainder ≡ remainder_after 0xffffffff head
    → IsReadTo head l.text l.lines.items l.end)

abbrev pub decreases-loop-n : goal.decreases-loop-n
decreases-loop-n l = length l.text - l.end
