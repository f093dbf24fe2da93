-- A session under a list of calls, and the history that it leaves. Lists of calls are newest first.
use Rattle.std.specs.Prelude.{ℕ, ◌<◌, ◌&&◌, Bool, if◌then◌else◌, List, [], ◌∷◌, is_none, Option}
use Rattle.std.specs.Prelude.{Some, None}
use Rattle.apci.specs.declared.apdu.Apdu.{Apdu}
use Rattle.session.specs.declared.kinds.FrameOrigin.{FrameOrigin}
use Rattle.session.specs.declared.kinds.Taken.{Taken}
use Rattle.session.specs.declared.kinds.Taken.TheVariants.{Nothing, Asdu, Close}
use Rattle.session.specs.Session.{Session, new_session, opened, closed, is_open, taken, outcome_of}
use Rattle.session.specs.Session.{sent, may_send, confirmed, pulled, Due}
use Rattle.session.specs.History.{Happened, History, Opened, Came, Refused, Sent, Went}

pub record Settings : Type 0 where
  pub k : ℕ
  pub w : ℕ
  pub t1 : ℕ
  pub t2 : ℕ
  pub t3 : ℕ

-- what `new` asks for
pub record IsInRange (settings : Settings) : Type 0 where
  pub k_small : settings.k < 32768
  pub w_positive : 0 < settings.w

-- the calls that change a session, each with its moment
pub data Call : Type 0 where
  Open : ℕ → Call
  Cut : Call
  Take : Apdu → ℕ → Call
  Send : FrameOrigin → ℕ → Call
  Confirm : ℕ → Call
  Pull : ℕ → Call

pub record Run : Type 0 where
  pub session : Session
  pub history : History

-- how a frame that came is logged, by what it led to
abbrev pub logged : Taken → Apdu → ℕ → Happened
logged (Close cause) frame now = Refused now
logged Asdu frame now = Came frame now
logged Nothing frame now = Came frame now

abbrev pub with_frame : Option Apdu → ℕ → History → History
with_frame None now h = h
with_frame (Some frame) now h = Went frame now ∷ h

-- the session after a call that may answer a frame, and the history with that frame
abbrev pub gone : Due → ℕ → Run → Run
gone due now r = record { session = due.1; history = with_frame due.0 now r.history }

-- `take` is for an open connection, once `confirm` has answered None
abbrev pub may_take : Session → Bool
may_take s = is_open s && is_none (confirmed s).0

-- A call whose condition doesn't hold isn't made.
abbrev pub after_call : Call → Run → Run
after_call (Open now) r = record { session = opened now r.session; history = Opened now ∷ [] }
after_call Cut r = record { session = closed r.session; history = [] }
after_call (Take frame now) r =
    if may_take r.session
    then record {
      session = taken frame now r.session;
      history = logged
          (outcome_of r.session frame) frame now ∷ r.history;
    }
    else r
after_call (Send kind now) r =
    if may_send r.session
    then record {
      session = sent kind now r.session;
      history = Sent r.session.next_sent r.session.next_received kind now ∷ r.history;
    }
    else r
after_call (Confirm now) r = gone (confirmed r.session) now r
after_call (Pull now) r = gone (pulled now r.session) now r

-- the calls, one after another, from `new` on
abbrev pub run : Settings → List Call → Run
run p [] = record { session = new_session p.k p.w p.t1 p.t2 p.t3; history = [] }
run p (call ∷ earlier) = after_call call (run p earlier)
