-- The first wrong line is among those that are left.
use Rattle.std.proofs.Common.{◌≡◌}
use Rattle.std.specs.Option.{option_copied}
use Rattle.traces.specs.Fields.{parts_after}
use Rattle.traces.specs.Trace.{first_wrong}
use Rattle.record.specs.Lines.{event_lines}
use Rattle.record.proofs.audit.passing.fault_among.Given as goal

abbrev pub invariant-judging : goal.invariant-judging
invariant-judging l =
    first_wrong l.number (event_lines (parts_after 10 (option_copied l.left)))
    ≡ first_wrong l.fn.first (event_lines (parts_after 10 (option_copied l.fn.lines)))
