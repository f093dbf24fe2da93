use Rattle.std.proofs.Common.{◌≡◌, ◌+◌, ◌++◌, length}
use Rattle.state.specs.GivenUps as spec
use Rattle.state.proofs.given_up.push_line.Given as goal

abbrev pub invariant-loop-left : goal.invariant-loop-left
invariant-loop-left l = record {
  list : l.list.items ++ spec.unanswered_from l.sizes l.line l.station l.left
      ≡ l.initial.list.items ++ spec.unanswered_from l.sizes l.line 0 l.line.stations;
  place : l.station + length l.left ≡ length l.line.stations;
}

abbrev pub decreases-loop-left : goal.decreases-loop-left
decreases-loop-left l = length l.left
