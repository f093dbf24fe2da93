-- So many turns are done, and what the run has left is as `drive_on` leaves it; of its lines all
-- were printed, or a beginning.
use Rattle.std.proofs.Common.{◌≡◌, ◌≤◌, ◌-◌, ℕ, List, Option}
use Rattle.gateway.specs.Agrees.{Follows, Rests}
use Rattle.gateway.specs.Reports.{Setup}
use Rattle.gateway.specs.Runs.{MoreEvents}
use Rattle.traces.specs.Pouring.{IsPoured}
use Rattle.words.proofs.Driven.{SoFar}
use Rattle.words.proofs.ladder.driving.drive_in_words.Given as goal

abbrev pub invariant-parts : goal.invariant-parts
invariant-parts g l = record {
  within : l.done ≤ l.turns;
  more : MoreEvents l.done (g.P.Port.log l.fn.ladder.port) (g.P.Port.log l.ladder.port);
  kept : (p : Setup) → Follows p l.fn.gateway (g.P.Port.log l.fn.ladder.port)
      → Rests p (g.P.Port.log l.fn.ladder.port) → Follows p l.gateway (g.P.Port.log l.ladder.port);
  rests : (p : Setup) → Follows p l.fn.gateway (g.P.Port.log l.fn.ladder.port)
      → Rests p (g.P.Port.log l.fn.ladder.port) → Rests p (g.P.Port.log l.ladder.port);
  course : g.P.Paged.course l.ladder.port ≡ g.P.Paged.course l.fn.ladder.port;
  style : l.ladder.scribe.style ≡ l.fn.ladder.scribe.style;
  healthy : g.P.Port.failed l.ladder.port ≡ 0;
  own : l.ladder.failed ≡ 0;
  so_far : SoFar l.fn.out (λ p. Follows p l.fn.gateway (g.P.Port.log l.fn.ladder.port)
      × Rests p (g.P.Port.log l.fn.ladder.port)) l.out l.ladder.scribe.poured;
  logged : (before : Option (List ℕ))
      → IsPoured l.fn.was_whole before (g.W.Write.contents l.fn.out) l.fn.ladder.scribe.logged
      → IsPoured l.is_whole before (g.W.Write.contents l.out) l.ladder.scribe.logged;
}

abbrev pub decreases-parts : goal.decreases-parts
decreases-parts g l = l.turns - l.done
