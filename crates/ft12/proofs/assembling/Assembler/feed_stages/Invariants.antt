use Rattle.std.proofs.Common.{◌≡◌, ◌++◌, ◌+◌, ◌-◌, ◌^◌, min, take}
use Rattle.ft12.specs.DueOctet.{IsStage, so_far}
use Rattle.ft12.proofs.assembling.Assembler.feed_stages.Given as goal

-- what is kept stands for the octets before the piece and those of it that were looked at
abbrev pub invariant-loop-i : goal.invariant-loop-i
invariant-loop-i l = record {
  is_stage : IsStage l.self-inside.size l.stage l.self-inside.kept.items;
  joined : so_far l.self-inside.size l.stage l.self-inside.kept.items
      ≡ so_far l.initial.self-inside.size l.initial.stage l.initial.self-inside.kept.items
      ++ take l.i l.piece;
  size : l.self-inside.size ≡ l.initial.self-inside.size;
  looked : l.self-inside.looked ≡ min (l.initial.self-inside.looked + l.i) (2 ^ 64 - 1);
}
