use Rattle.std.proofs.Common.{◌≡◌}
use Rattle.std.specs.List.{AllByRecursion}
use Rattle.std.specs.Option.{option_copied}
use Rattle.traces.specs.Fields.{parts_after}
use Rattle.traces.specs.Progress.{events_in, IsRight}
use Rattle.traces.proofs.text_port.first_event.Given as goal

-- the lines that were skipped logged no event
abbrev pub invariant-reading : goal.invariant-reading
invariant-reading l = record {
  logged : events_in (parts_after 10 (option_copied l.left))
      ≡ events_in (parts_after 10 (option_copied l.fn.text));
  right : AllByRecursion IsRight (parts_after 10 (option_copied l.left))
      → AllByRecursion IsRight (parts_after 10 (option_copied l.fn.text));
}
