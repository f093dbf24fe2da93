use Rattle.std.proofs.Common.{◌≡◌, ◌++◌, string_bytes}
use Rattle.std.specs.List.{flat_map}
use Rattle.events.specs.Queue.{kept}
use Rattle.state.specs.QueuedReports.{report_line}
use Rattle.state.proofs.description.reports.push_reports.Given as goal

abbrev pub invariant-loop-piece : goal.invariant-loop-piece
invariant-loop-piece l = string_bytes l.text ++ flat_map (report_line l.stations) l.piece-iterator
    ≡ string_bytes l.initial.text
    ++ flat_map (report_line l.stations) (kept l.gateway.centre.queue)
