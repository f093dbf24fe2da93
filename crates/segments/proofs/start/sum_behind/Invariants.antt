use Rattle.std.proofs.Common.{◌≡◌, ◌≤◌, ◌-◌, IsTrue, drop, take}
use Rattle.statetext.specs.Sum.{remainder_after}
use Rattle.segments.proofs.start.sum_behind.Given as goal

abbrev pub invariant-loop-at : goal.invariant-loop-at
invariant-loop-at g l = record {
  within : l.at ≤ l.octets;
  usable : IsTrue (g.D.Disk.is_usable l.file);
  clean : IsTrue (g.D.Disk.is_clean l.file) → IsTrue (g.D.Disk.is_clean l.fn.file);
  seen : g.D.Disk.seen l.file ≡ g.D.Disk.seen l.fn.file;
  sum : IsTrue (g.D.Disk.is_clean l.file) → l.sum.remainder
      ≡ remainder_after 0xffffffff (take l.at (drop 87 (g.D.Disk.seen l.file)));
}

abbrev pub decreases-loop-at : goal.decreases-loop-at
decreases-loop-at g l = l.octets - l.at
