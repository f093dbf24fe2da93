use Rattle.std.proofs.Common.{◌≡◌, ◌++◌, map}
use Rattle.std.specs.List.{filter_map, AllByRecursion}
use Rattle.std.specs.Option.{option_copied}
use Rattle.gateway.specs.Entries.{FitsPort}
use Rattle.traces.specs.Event.{event_of}
use Rattle.traces.specs.Fields.{parts_after}
use Rattle.traces.specs.Trace.{lines_of, logged, first_wrong}
use Rattle.traces.proofs.reading.read_trace.Given as goal

-- what is read, and what the lines that are left log, are what all lines log; and the first wrong
-- line is among those left
abbrev pub invariant-loop-number : goal.invariant-loop-number
invariant-loop-number l = record {
  logged : map event_of l.entries.items ++ filter_map logged (parts_after 10 (option_copied l.left))
      ≡ filter_map logged (lines_of l.fn.text);
  wrong : first_wrong l.number (parts_after 10 (option_copied l.left))
      ≡ first_wrong 1 (lines_of l.fn.text);
  fits : AllByRecursion FitsPort l.entries.items;
}
