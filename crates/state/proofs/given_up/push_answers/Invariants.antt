use Rattle.std.proofs.Common.{◌≡◌, ◌≤◌, ◌-◌, ◌++◌, drop, length}
use Rattle.state.specs.GivenUps as spec
use Rattle.state.proofs.given_up.push_answers.Given as goal

abbrev pub invariant-loop-asdu : goal.invariant-loop-asdu
invariant-loop-asdu l = record {
  list : l.list.items ++ spec.answers_in (drop l.place l.commands.answers)
      ≡ l.initial.list.items ++ spec.answers_in l.commands.answers;
  place : l.place ≤ length l.commands.answers;
}

abbrev pub decreases-loop-asdu : goal.decreases-loop-asdu
decreases-loop-asdu l = length l.commands.answers - l.place
