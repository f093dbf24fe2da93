use Rattle.std.proofs.Common.{◌≡◌, ◌+◌, length}
use Rattle.std.specs.Option.{option_copied}
use Rattle.traces.specs.Fields.{parts_after}
use Rattle.traces.specs.Trace.{lines_of, first_wrong}
use Rattle.traces.proofs.judging.judge.Given as goal

-- the first wrong line is among those that are left, and the number of the first of these is as
-- many as were
-- judged beyond that of the part's first one
abbrev pub invariant-loop-number : goal.invariant-loop-number
invariant-loop-number l = record {
  counted : l.number + length (parts_after 10 (option_copied l.left))
      ≡ l.fn.first + length (lines_of l.fn.text);
  wrong : first_wrong l.number (parts_after 10 (option_copied l.left))
      ≡ first_wrong l.fn.first (lines_of l.fn.text);
}
