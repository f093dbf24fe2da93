use Rattle.std.proofs.Common.{◌≡◌, ◌++◌, map, take, drop}
use Rattle.command.specs.State.{cut_off}
use Rattle.command.proofs.keeping.cut_all.Given as goal

abbrev pub invariant-loop-line : goal.invariant-loop-line
invariant-loop-line l = take l.line-index l.lines ++ map cut_off (drop l.line-index l.lines)
    ≡ map cut_off l.fn.lines
