use Rattle.std.proofs.Common.{◌≡◌, ◌+◌, length}
use Rattle.state.proofs.counting.count_all.Given as goal

abbrev pub invariant-loop-number : goal.invariant-loop-number
invariant-loop-number g l = l.number + length (g.L.EventLines.coming l.lines)
    ≡ length (g.L.EventLines.coming l.fn.lines)
