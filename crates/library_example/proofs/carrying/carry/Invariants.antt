use Rattle.std.proofs.Common.{◌≡◌, ◌<◌, ◌≤◌, ◌^◌, ◌++◌, length, map}
use Rattle.std.specs.List.{AllByRecursion}
use Rattle.apci.specs.Spelling.{spelling}
use Rattle.asdu.specs.Reading.{value_of}
use Rattle.asdu.specs.Translation.{report_pieces}
use Rattle.library_example.proofs.Numbered.{numbered}
use Rattle.library_example.proofs.carrying.carry.Given as goal

-- the APDUs so far, and those of the pieces that are left, are all of them
abbrev pub invariant-loop-left : goal.invariant-loop-left
invariant-loop-left l = record {
  number : l.number < 2 ^ 15;
  all : map (λ a. a.items) l.apdus.items ++ map spelling (numbered l.number l.left)
      ≡ map spelling (numbered l.fn.sent (report_pieces (value_of l.fn.report)));
  lengths : AllByRecursion (λ p. (9 ≤ length p) × (length p ≤ 249)) l.left;
}

abbrev pub decreases-loop-left : goal.decreases-loop-left
decreases-loop-left l = length l.left
