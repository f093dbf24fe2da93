-- So many lines were passed, none of which logs an event.
use Rattle.std.proofs.Common.{◌+◌, ◌≤◌, []}
use Rattle.std.specs.Option.{option_copied}
use Rattle.traces.specs.Fields.{parts_after}
use Rattle.record.specs.Passing.{Passes}
use Rattle.record.proofs.audit.passing.next_event.Given as goal

abbrev pub invariant-passing : goal.invariant-passing
invariant-passing l = record {
  passes : Passes [] (parts_after 10 (option_copied l.fn.lines)) l.fn.before
      (parts_after 10 (option_copied l.left))
      (record { lines = l.number; events = l.fn.before.events; actions = l.actions });
  few : l.fn.before.events + l.actions ≤ l.number;
}
