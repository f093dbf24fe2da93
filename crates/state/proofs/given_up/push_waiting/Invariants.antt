use Rattle.std.proofs.Common.{◌≡◌, ◌≤◌, ◌-◌, ◌++◌, drop, length}
use Rattle.state.specs.GivenUps as spec
use Rattle.state.proofs.given_up.push_waiting.Given as goal

abbrev pub invariant-loop-station : goal.invariant-loop-station
invariant-loop-station l = record {
  list : l.list.items ++ spec.waiting_in (drop l.place l.commands.waiting)
      ≡ l.initial.list.items ++ spec.waiting_in l.commands.waiting;
  place : l.place ≤ length l.commands.waiting;
}

abbrev pub decreases-loop-station : goal.decreases-loop-station
decreases-loop-station l = length l.commands.waiting - l.place
