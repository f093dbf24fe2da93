-- So many turns are done, and what the run has left is as `drive_on` leaves it; of its lines all
-- were printed, or a beginning.
use Rattle.std.proofs.Common.{◌≡◌, ◌≤◌, ◌-◌, ℕ, List, Option, false}
use Rattle.gateway.specs.Agrees.{Follows, Rests}
use Rattle.gateway.specs.Reports.{Setup}
use Rattle.gateway.specs.Runs.{MoreEvents}
use Rattle.traces.specs.Actions.{lines_of_actions}
use Rattle.traces.specs.Pouring.{IsPoured}
use Rattle.traces.proofs.driving.drive_printed.Given as goal

abbrev pub invariant-parts : goal.invariant-parts
invariant-parts g l = record {
  within : l.done ≤ l.turns;
  more : MoreEvents l.done (g.P.Port.log l.fn.port) (g.P.Port.log l.port);
  kept : (p : Setup) → Follows p l.fn.gateway (g.P.Port.log l.fn.port)
      → Rests p (g.P.Port.log l.fn.port)
      → Follows p l.gateway (g.P.Port.log l.port);
  rests : (p : Setup) → Follows p l.fn.gateway (g.P.Port.log l.fn.port)
      → Rests p (g.P.Port.log l.fn.port)
      → Rests p (g.P.Port.log l.port);
  course : g.P.Paged.course l.port ≡ g.P.Paged.course l.fn.port;
  healthy : g.P.Port.failed l.port ≡ 0;
  poured : (before : Option (List ℕ)) →
      IsPoured l.fn.was_whole before (g.W.Write.contents l.fn.out)
      (lines_of_actions (g.P.Paged.poured l.fn.port)) →
      IsPoured l.is_whole before (g.W.Write.contents l.out)
      (lines_of_actions (g.P.Paged.poured l.port));
  unwatched : l.is_shown ≡ false → l.err ≡ l.fn.err;
}

abbrev pub decreases-parts : goal.decreases-parts
decreases-parts g l = l.turns - l.done
