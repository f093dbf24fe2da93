use Rattle.std.proofs.Common.{◌+◌, ◌*◌}
use Rattle.segments.specs.Zeroed.{IsZeroed}
use Rattle.segments.proofs.gate.write_zeros.Given as goal

abbrev pub invariant-loop-i : goal.invariant-loop-i
invariant-loop-i g l =
    IsZeroed (g.D.Disk.is_usable l.file) (g.D.Disk.seen l.file) (g.D.Disk.may_leave l.file) l.at
    (l.at + l.i * 4096) (g.D.Disk.seen l.fn.file)
