-- A run from event to event (this gateway's own profile).
use Rattle.std.specs.Prelude.{◌≡◌, ℕ, ◌+◌, Option, Some, None, option_map}
use Rattle.std.specs.Prelude.{Result, Ok}
use Rattle.gateway.specs.Agrees.{Follows, Rests}
use Rattle.gateway.specs.Log.{Log}
use Rattle.gateway.specs.Reports.{Setup}
use Rattle.gateway.specs.Runs.{AtMostEvents, MoreEvents}
use Rattle.gateway.specs.State.{State}
use Rattle.live.specs.declared.watched.Failure.{Failure}
use Rattle.live.specs.declared.watched.Notice.{Notice}
use Rattle.status.specs.Looking.{looked, turned_after}
use Rattle.status.specs.Looks.{Look, Standing}
use Rattle.status.specs.declared.lookout.Lookout.{Lookout}
use Rattle.record.specs.Recording.{AreAgreed, Recorded, RecordedFixture, all_passed}
use Rattle.record.specs.Recording.{recorded_fixture}
use Rattle.runlog.specs.Logging.{Book, Closes, Tends}
use Rattle.status.specs.declared.streams.Stream.{Ghosts}

-- How a run stands: its gateway, its port, what was logged, and what is shown to visitors, if there
-- is a listener for them.
pub record RunStanding (P : Type 0) : Type 0 where
  pub gateway : State
  pub port : P
  pub book : Book
  pub shown : Option Standing

abbrev pub stands : {P : Type 0} → State → P → Book → Option Standing → RunStanding P
stands gateway port book shown = record {
  gateway = gateway;
  port = port;
  book = book;
  shown = shown;
}

-- what is shown to visitors, and when they had a turn last
abbrev pub shown_to : {D S : Type 0} {streams : Ghosts S} → Option (Lookout D S streams)
    → Option Standing
shown_to lookout = option_map (λ l. record { turned = l.turned; shown = l.shown }) lookout

-- One event was taken, and what follows from it went out. A gateway that followed the log still
-- does. What is fixed of the port but for looks is as before.
pub record TakesEvent {P F : Type 0} (log : P → Option Log) (script : P → F)
    (before after : RunStanding P) : Type 0
  where
    pub one : MoreEvents 1 (log before.port) (log after.port)
    pub fixed : script after.port ≡ script before.port
    pub follows : (p : Setup) → Follows p before.gateway (log before.port)
        → Rests p (log before.port)
        → Follows p after.gateway (log after.port) × Rests p (log after.port)
    pub shown : after.shown ≡ before.shown

-- Visitors are shown the run as it is at this look, beside the name of who has connected. If there
-- is no listener for them, there is none afterwards.
abbrev pub AreShown : Look → (before after : Option Standing) → Type 0
AreShown l None after = after ≡ None
AreShown l (Some s) after =
    (t : Standing) × (after ≡ Some t) × (t.turned ≡ turned_after s.turned l.watch.moment)
    × (t.shown ≡ record (looked s.turned l.gateway l.watch l.notice s.shown) {
      peer = t.shown.peer;
    })

-- All looked at the gateway, and nothing else came or went: the port tended the state on the disk,
-- what it then reported was logged and how the gateway stands, and visitors were shown that.
pub record HaveLooked {P : Type 0} (log : P → Option Log)
    (tends : P → State → P → Option Notice → Type 0) (before after : RunStanding P) : Type 0 where
  pub notice : Option Notice
  pub same : after.gateway ≡ before.gateway
  pub quiet : log after.port ≡ log before.port
  pub tended : tends before.port before.gateway after.port notice
  pub logged : Tends notice before.book before.gateway after.book
  pub shown : AreShown (record {
    gateway = before.gateway;
    watch = after.book.watching;
    notice = notice;
  }) before.shown after.shown

-- So many events were taken, and behind each of them all looked before the next one came.
pub data HasGoneOn {P F : Type 0} (log : P → Option Log) (script : P → F)
    (tends : P → State → P → Option Notice → Type 0) (first : RunStanding P)
    : ℕ → RunStanding P → Type 0 where
  Begun : HasGoneOn log script tends first 0 first
  Turned : (n : ℕ) (before taken after : RunStanding P)
      → HasGoneOn log script tends first n before
      → TakesEvent log script before taken → HaveLooked log tends taken after
      → HasGoneOn log script tends first (n + 1) after

-- All looked at the gateway once so many events had come. If it followed the log at first, it does
-- at that look.
pub record AllLooked {P : Type 0} (log : P → Option Log)
    (tends : P → State → P → Option Notice → Type 0) (first : RunStanding P) (events : ℕ) : Type 0
  where
    pub at : RunStanding P
    pub behind : RunStanding P
    pub looked : HaveLooked log tends at behind
    pub come : MoreEvents events (log first.port) (log at.port)
    pub follows : (p : Setup) → Follows p first.gateway (log first.port)
        → Rests p (log first.port) → Follows p at.gateway (log at.port)

-- In its last turn a run took one event at most. Then what failed was logged, if anything, and what
-- the gateway had counted.
pub record EndsInTurn {P F : Type 0} (log : P → Option Log) (script : P → F)
    (failure : P → Option Failure) (before after : RunStanding P) : Type 0 where
  pub few : AtMostEvents 1 (log before.port) (log after.port)
  pub fixed : script after.port ≡ script before.port
  pub between : Book
  pub closes : Closes between (failure after.port) after.gateway after.book
  pub shown : after.shown ≡ before.shown

-- The run went on so from the first standing to the last one. It ended in a turn, or once all turns
-- that can be counted were used up.
pub data HasServed {P F E : Type 0} (log : P → Option Log) (script : P → F)
    (tends : P → State → P → Option Notice → Type 0) (failure : P → Option Failure)
    (first last : RunStanding P) : Result (Unit {0}) E → Type 0 where
  InATurn : (n : ℕ) (before : RunStanding P) (ended : Result (Unit {0}) E)
      → HasGoneOn log script tends first n before → EndsInTurn log script failure before last
      → HasServed log script tends failure first last ended
  WithoutEnd : HasGoneOn log script tends first 18446744073709551615 last
      → HasServed log script tends failure first last (Ok tt)

-- what has passed in all lives at a port that is recorded
abbrev pub log_in_life : {P : Type 0} → (P → Option Log) → Recorded P → Option Log
log_in_life log l = all_passed l.pen (log l.port)

-- what is fixed of it
abbrev pub script_in_life : {P F : Type 0} → (P → F) → Recorded P → RecordedFixture F
script_in_life script l = recorded_fixture (script l.port) l.pen

-- It tended the state, of which nothing is recorded. What is recorded is what has passed, if both
-- is known.
abbrev pub tends_in_life : {P : Type 0} → (P → Option Log)
    → (P → State → P → Option Notice → Type 0) → Recorded P → State → Recorded P
    → Option Notice → Type 0
tends_in_life log tends old state new notice =
    tends old.port state new.port notice × (new.pen ≡ old.pen)
    × AreAgreed old.pen (log old.port)

abbrev pub failure_in_life : {P : Type 0} → (P → Option Failure) → Recorded P → Option Failure
failure_in_life failure l = failure l.port
