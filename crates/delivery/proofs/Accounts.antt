-- What a gateway tells of its run is what the log shows.
use Rattle.std.specs.Prelude.{if◌then◌else◌}
use Rattle.std.proofs.Common.{◌≡◌, ℕ, Bool, true, false, Option, Some, None, refl}
use Rattle.gateway.specs.Accounts.{IsAccounted}
use Rattle.gateway.specs.Log.{Log}
use Rattle.gateway.specs.Reports.{Setup}
use Rattle.gateway.specs.State.{State}
use Rattle.gateway.specs.Works.{Works, unless_silent_works, settled_works, unasked_works}
use Rattle.gateway.specs.Works.{done_works}
use Rattle.delivery.specs.Closing.{AreTaken}
use Rattle.delivery.proofs.Skipping.{lost_skips, lost_mirrors}

-- A step's timers and its request count neither a report nor a station's answer.
silent_skips : (o : Option ℕ) (w : Works)
    → (unless_silent_works o w).serial.counts.skipped ≡ w.serial.counts.skipped
silent_skips None w = refl
silent_skips (Some k) w = lost_skips k w.serial

pub done_skips : (at : ℕ) (room : Bool) (w : Works)
    → (done_works at room w).serial.counts.skipped ≡ w.serial.counts.skipped
done_skips at room w = go w.is_due
  where
    go : (b : Bool)
        → (if b then unasked_works at room (settled_works at w) else w).serial.counts.skipped
        ≡ w.serial.counts.skipped
    go true = silent_skips w.serial.silent w
    go false = refl

silent_mirrors : (o : Option ℕ) (w : Works)
    → (unless_silent_works o w).serial.counts.mirrors ≡ w.serial.counts.mirrors
silent_mirrors None w = refl
silent_mirrors (Some k) w = lost_mirrors k w.serial

pub done_mirrors : (at : ℕ) (room : Bool) (w : Works)
    → (done_works at room w).serial.counts.mirrors ≡ w.serial.counts.mirrors
done_mirrors at room w = go w.is_due
  where
    go : (b : Bool)
        → (if b then unasked_works at room (settled_works at w) else w).serial.counts.mirrors
        ≡ w.serial.counts.mirrors
    go true = silent_mirrors w.serial.silent w
    go false = refl

-- all that came is taken in the course that shows what is kept
pub accounts_taken : (p : Setup) (s : State) (log : Log) (a : IsAccounted p s log)
    → AreTaken log a.course.talk
accounts_taken p s log a = record {
  rest = a.are.open_one.rest;
  octets = a.are.open_one.joined;
  more = a.are.open_one.behind;
}
