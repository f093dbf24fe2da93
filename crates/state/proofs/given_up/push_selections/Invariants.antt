use Rattle.std.proofs.Common.{◌≡◌, ◌≤◌, ◌-◌, ◌++◌, drop, length}
use Rattle.state.specs.GivenUps as spec
use Rattle.state.proofs.given_up.push_selections.Given as goal

abbrev pub invariant-loop-selected : goal.invariant-loop-selected
invariant-loop-selected l = record {
  list : l.list.items ++ spec.selections_in (drop l.place l.commands.selections)
      ≡ l.initial.list.items ++ spec.selections_in l.commands.selections;
  place : l.place ≤ length l.commands.selections;
}

abbrev pub decreases-loop-selected : goal.decreases-loop-selected
decreases-loop-selected l = length l.commands.selections - l.place
