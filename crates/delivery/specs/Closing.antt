-- Why a connection is closed, and what a step leaves undone on one that stays open: nothing (IEC
-- 60870-5-104, 5.1 to 5.5; the causes' numbers are this gateway's own profile).
use Rattle.std.specs.Prelude.{◌≡◌, ℕ, ◌+◌, ◌<◌, true, false, List, [], ◌∷◌, ◌++◌, length, None}
use Rattle.apci.specs.declared.apdu.Apdu.{Apdu}
use Rattle.apci.specs.declared.apdu.Why.{Why}
use Rattle.apci.specs.declared.apdu.Front.TheVariants.{Never}
use Rattle.apci.specs.Spelling.{spelling, Fits}
use Rattle.apci.specs.Reading.{IsFront, IsMore}
use Rattle.session.specs.History as talk
use Rattle.session.specs.declared.kinds.Close.{Close}
use Rattle.session.specs.declared.kinds.Close.TheVariants.{Grammar, Timeout, OwnAnswers, Replaced}
use Rattle.session.specs.declared.kinds.Taken.TheVariants.{Close as Closes}
use Rattle.command.specs.History.{History, Offered, Ended, own_kept}
use Rattle.gateway.specs.Connections.{present}
use Rattle.gateway.specs.Course.{Course, came_frames, here_of}
use Rattle.gateway.specs.Frames.{first_unacknowledged, monitor_objects_sent}
use Rattle.gateway.specs.GoingOut.{answers_among}
use Rattle.gateway.specs.Log.{Log, LogEntry, Came, Restarted, latest}
use Rattle.gateway.specs.Reports.{Setup, taken_objects}
use Rattle.gateway.specs.Stepping.{unplaced}
use Rattle.gateway.specs.Streams.{spelled}

-- Behind the frames that were taken stand octets with which no APDU begins (5.1).
pub record IsNoFrame (log : Log) (h : talk.History) : Type 0 where
  pub rest : List ℕ
  pub octets : (present log).received ≡ spelled (came_frames h) ++ rest
  pub place : ℕ
  pub why : Why
  pub refused : IsFront rest (Never place why)

-- Behind them stands a frame that has this fault, by all that came and went on the connection
-- before it (5.1 and 5.3).
pub record IsAtFault (log : Log) (h : talk.History) (cause : Close) : Type 0 where
  pub frame : Apdu
  pub fits : Fits frame
  pub more : List ℕ
  pub octets : (present log).received ≡ spelled (came_frames h) ++ (spelling frame ++ more)
  pub fault : talk.verdict_on frame h ≡ Closes cause

-- Why the open connection is closed with this cause. With 1 no APDU comes next, and with 2, 3 and
-- 4 a frame with that fault does. With 5 an I frame or a test has had no answer for t1. With 6 an
-- own answer found no place. For a connection that another replaced (7) nothing is asked here.
abbrev pub IsClosedFor : Setup → Log → Course → Close → Type 0
IsClosedFor p log c Grammar = IsNoFrame log c.talk
IsClosedFor p log c Timeout = talk.has_timed_out p.session.t1 (latest log) c.talk ≡ true
IsClosedFor p log c OwnAnswers = 0 < unplaced c.works.history
IsClosedFor p log c Replaced = Unit {0}
IsClosedFor p log c cause = IsAtFault log c.talk cause

-- Each whole frame that came is taken, and what stands behind them may still become one.
pub record AreTaken (log : Log) (h : talk.History) : Type 0 where
  pub rest : List ℕ
  pub octets : (present log).received ≡ spelled (came_frames h) ++ rest
  pub more : IsMore rest

-- Data transfer runs, and fewer than k I frames are unacknowledged (5.3, 5.5).
abbrev pub MaySendData : Setup → Course → Type 0
MaySendData p c = (talk.is_started c.talk ≡ true)
    × (length (talk.still_unacknowledged c.talk) < p.session.k)

-- the own answers that were handed over on the open connection, with a place or without, the oldest
-- first
abbrev pub own_given : History → List (List ℕ)
own_given [] = []
own_given (Offered octets kept ∷ h) = own_given h ++ octets ∷ []
own_given (Ended ∷ h) = []
own_given (_ ∷ h) = own_given h

-- All is done on the connection that can be done.
pub record HasDoneAll (p : Setup) (log : Log) (c : Course) : Type 0 where
  pub taken : AreTaken log c.talk
  -- no confirmation is due, nor an S frame or a test, and no answer is late
  pub confirmed : talk.confirmation_of c.talk ≡ None
  pub none_due :
      talk.frame_due p.session.w p.session.t2 p.session.t3 (latest log) c.talk ≡ None
  pub in_time : talk.has_timed_out p.session.t1 (latest log) c.talk ≡ false
  -- each own answer that was handed over was kept: none was dropped for want of a place
  pub placed : (present log).is_open ≡ true → own_given c.works.history ≡ own_kept c.works.history
  -- if data may go out, each own answer that was kept has gone out in an I frame
  pub answers : MaySendData p c → own_kept c.works.history ≡ answers_among c.sent
  -- and all objects taken have: those that no connection before acknowledged went out on this one
  pub objects : MaySendData p c →
      first_unacknowledged c.earlier + length (monitor_objects_sent (here_of c))
      ≡ length (taken_objects p log)

-- Nothing of the connection comes before a request to the line (profile). Each whole frame that
-- came is taken. No answer is late, so the connection isn't about to be closed.
pub record WaitsForNone (p : Setup) (log : Log) (c : Course) : Type 0 where
  pub taken : AreTaken log c.talk
  pub in_time : talk.has_timed_out p.session.t1 (latest log) c.talk ≡ false

-- an entry of a step: any but a restart, which stands between two steps
abbrev pub IsOfStep : LogEntry → Type 0
IsOfStep (Came now Restarted) = ⊥
IsOfStep entry = Unit {0}
