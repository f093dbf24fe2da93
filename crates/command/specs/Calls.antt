-- Lists of calls, and the history that they leave.
use Rattle.std.specs.Prelude.{ℕ, ◌≤◌, List, [], ◌∷◌, Option, Some, None}
use Rattle.asdu.specs.Asdu.{AsduValue}
use Rattle.asdu.specs.declared.sizes.Sizes.{Sizes}
use Rattle.command.specs.declared.station.StationInfo.{StationInfo}
use Rattle.command.specs.declared.waiting.Waiting.{Waiting}
use Rattle.command.specs.State as state
use Rattle.command.specs.State.{State, oldest_for, line_of, refusal_of, is_used, has_answer_place}
use Rattle.command.specs.State.{offered, first_answer, answered}
use Rattle.command.specs.Judging as judging
use Rattle.command.specs.Mirrors as mirrors
use Rattle.command.specs.History.{Judged, Sent, Accepted, Refused, GivenUp, Mirrored, Offered}
use Rattle.command.specs.History.{Answered, Ended, History}

-- the calls that change something
pub data Call : Type 0 where
  Judge : List ℕ → ℕ → Option ℕ → Call
  PutOnLine : ℕ → Call
  Accept : ℕ → Call
  Busy : ℕ → Call
  Lose : ℕ → Call
  Mirror : AsduValue → ℕ → Call
  Own : List ℕ → Call
  SendOwn : Call
  Cut : Call
  Due : ℕ → Call

pub record Run : Type 0 where
  pub state : State
  pub history : History

-- a call to put on the line logs nothing if nothing waits
abbrev pub after_sending : Option Waiting → ℕ → Run → Run
after_sending None k r = r
after_sending (Some waiting) k r = record {
  state = state.sent k r.state;
  history = Sent k waiting.octets ∷ r.history;
}

-- `own_sent` is for a kept answer: without one it isn't called
abbrev pub after_answer : Option (List ℕ) → Run → Run
after_answer None r = r
after_answer (Some octets) r = record {
  state = answered r.state;
  history = Answered octets ∷ r.history;
}

abbrev pub after_call : Call → Run → Run
after_call (Judge xs now wall) r = record {
  state = (judging.judged xs now wall r.state).1;
  history = Judged now wall xs (judging.judged xs now wall r.state).0 ∷ r.history;
}
after_call (PutOnLine k) r = after_sending (oldest_for k r.state) k r
after_call (Accept k) r = record {
  state = state.accepted k r.state;
  history = Accepted k ∷ r.history;
}
after_call (Busy k) r = record {
  state = state.given_up k r.state;
  history = Refused k (refusal_of (line_of k r.state)) ∷ r.history;
}
after_call (Lose k) r = record {
  state = state.given_up k r.state;
  history = GivenUp k (is_used (line_of k r.state)) ∷ r.history;
}
after_call (Mirror v now) r = record {
  state = mirrors.mirrored v now r.state;
  history = Mirrored now v ∷ r.history;
}
after_call (Own octets) r = record {
  state = offered octets r.state;
  history = Offered octets (has_answer_place r.state) ∷ r.history;
}
after_call SendOwn r = after_answer (first_answer r.state.answers) r
after_call Cut r = record { state = state.closed r.state; history = Ended ∷ r.history }
after_call (Due now) r = record { state = state.timed now r.state; history = r.history }

-- `new`, before any call
abbrev pub first_run : List StationInfo → Sizes → ℕ → ℕ → Run
first_run stations sizes select_ms max_age_ms = record {
  state = state.new_state stations sizes select_ms max_age_ms;
  history = [];
}

-- the calls, one after another, the newest first, from `new` on
abbrev pub run : List StationInfo → Sizes → ℕ → ℕ → List Call → Run
run stations sizes select_ms max_age_ms [] = first_run stations sizes select_ms max_age_ms
run stations sizes select_ms max_age_ms (call ∷ earlier) =
    after_call call (run stations sizes select_ms max_age_ms earlier)

-- ---- moments

abbrev pub moment_of : Call → ℕ → ℕ
moment_of (Judge xs now wall) before = now
moment_of (Mirror v now) before = now
moment_of (Due now) before = now
moment_of _ before = before

-- the latest moment that was handed in
abbrev pub latest : List Call → ℕ
latest [] = 0
latest (call ∷ earlier) = moment_of call (latest earlier)

-- moments never fall from call to call
abbrev pub NeverFall : List Call → Type 0
NeverFall [] = Unit {0}
NeverFall (call ∷ earlier) = (latest earlier ≤ moment_of call (latest earlier)) × NeverFall earlier
