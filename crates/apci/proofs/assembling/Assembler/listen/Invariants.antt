use Rattle.std.proofs.Common.{◌≡◌, ◌++◌, ◌+◌, ◌-◌, ◌^◌, min, ℕ, List, Some, None, take}
use Rattle.apci.specs.Progress.{so_far, whole, IsState}
use Rattle.apci.proofs.assembling.Assembler.listen.Given as goal

abbrev pub invariant-loop-i : goal.invariant-loop-i
invariant-loop-i l = record {
  state : IsState l.self-inside.state l.self-inside.asdu.items;
  taken : whole l.self-inside.state l.self-inside.asdu.items ≡ None;
  joined : (before : List ℕ) × (so_far l.initial.self-inside.state l.initial.self-inside.asdu.items
      ≡ Some before)
      × (so_far l.self-inside.state l.self-inside.asdu.items ≡ Some (before ++ take l.i l.piece));
  looked : l.self-inside.looked ≡ min (2 ^ 64 - 1) (l.initial.self-inside.looked + l.i);
}
