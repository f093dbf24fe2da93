use Rattle.std.proofs.Common.{◌≡◌, ◌+◌, length}
use Rattle.state.specs.Replays.{events_in_front}
use Rattle.state.proofs.counting.count_logged.Given as goal

abbrev pub invariant-loop-number : goal.invariant-loop-number
invariant-loop-number g l = l.number + length (events_in_front (g.L.EventLines.coming l.lines))
    ≡ length (events_in_front (g.L.EventLines.coming l.fn.lines))
