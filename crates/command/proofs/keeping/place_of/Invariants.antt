use Rattle.std.proofs.Common.{◌≡◌, ◌++◌, take, drop}
use Rattle.command.specs.State.{oldest, without_oldest}
use Rattle.command.proofs.keeping.place_of.Given as goal

abbrev pub invariant-loop-i : goal.invariant-loop-i
invariant-loop-i l = record {
  found : oldest l.station (drop l.i l.waiting) ≡ oldest l.station l.waiting;
  rest : take l.i l.waiting ++ without_oldest l.station (drop l.i l.waiting)
      ≡ without_oldest l.station l.waiting;
}
