-- The calls that a run makes of the line's primary station, as its log shows them: in each step the
-- octets of its event, its moment, and a request, with the commands that wait (this gateway's own
-- profile, over the procedures of IEC 60870-5-2).
use Rattle.std.specs.Prelude.{◌≡◌, ℕ, zero, suc, Bool, true, false, if◌then◌else◌, List, [], ◌∷◌}
use Rattle.std.specs.Prelude.{◌++◌, length}
use Rattle.ft12.specs.Fronts.{front_of}
use Rattle.link.specs.Exchanges.{Exchanges}
use Rattle.link.specs.Carried.{awaits_command_in, given_up_upto}
use Rattle.link.specs.Runs.{Call, Next, Octets, Due, GivesUp, Doubts}
use Rattle.link.specs.Turns.{CommandsWaiting}
use Rattle.command.specs.History.{History, next_octets}
use Rattle.gateway.specs.Log.{Log, Input, LineIn, Restarted, LineOut, Came, Went, latest}
use Rattle.gateway.specs.Connections.{present}
use Rattle.gateway.specs.Reports.{Setup, exchanges_of}
use Rattle.gateway.specs.Course.{Course, room_in, HasTakenAll, Runs}

-- a step has begun, and no request went out in it so far
abbrev pub is_asking : Log → Bool
is_asking [] = false
is_asking (Came now Restarted ∷ log) = false
is_asking (Came now event ∷ log) = true
is_asking (Went now (LineOut octets) ∷ log) = false
is_asking (Went now action ∷ log) = is_asking log

-- For each station the oldest command waits that was forwarded to it on the open connection and
-- wasn't sent.
abbrev pub waiting_by : Setup → History → CommandsWaiting
waiting_by p h =
    λ station. next_octets p.sizes p.stations p.select_ms p.max_age_ms station h

-- Once all that came is taken, a request is asked for at the step's moment, with what waits then.
-- It is asked for with leave to poll exactly if the queue has room.
pub record Asks (p : Setup) (log : Log) (calls : List Call) : Type 0 where
  pub course : Course
  pub runs : Runs p log course
  pub all : HasTakenAll (present log) course.talk
  pub are : calls
      ≡ Next (latest log) (room_in p log course) (waiting_by p course.works.history) ∷ []

-- a step in which no request went out asked for one, too, and there was none
abbrev pub EndsStep : Setup → Log → (asking : Bool) → List Call → Type 0
EndsStep p log true calls = Asks p log calls
EndsStep p log false calls = calls ≡ []

-- By the exchanges of the line, the link is given up to each of so many stations, the first one
-- first, whose latest service is a command without an answer.
abbrev pub give_ups : Setup → (count : ℕ) → Exchanges → List Call
give_ups p zero e = []
give_ups p (suc k) e =
    give_ups p k e
    ++ (if awaits_command_in p.link (front_of p.link.size) p.addresses k
    (given_up_upto p.link (front_of p.link.size) p.addresses k e) then GivesUp k ∷ [] else [])

-- The octets of an event come, and then its moment.
abbrev pub event_calls : Setup → (at : ℕ) → Input → Exchanges → List Call
event_calls p at (LineIn octets) e = Octets octets ∷ Due at ∷ []
event_calls p at Restarted e = give_ups p (length p.addresses) e ++ Doubts ∷ []
event_calls p at event e = Due at ∷ []

-- the calls of a log, the first one first
abbrev pub CallsOf : Setup → Log → List Call → Type 0
CallsOf p [] calls = calls ≡ []
CallsOf p (Came now event ∷ log) calls =
    (before : List Call) × (left : List Call) × CallsOf p log before
    × EndsStep p log (is_asking log) left
    × (calls ≡ (before ++ left)
    ++ event_calls p (latest (Came now event ∷ log)) event (exchanges_of p log))
CallsOf p (Went now (LineOut octets) ∷ log) calls =
    (before : List Call) × (asked : List Call) × CallsOf p log before × Asks p log asked
    × (calls ≡ before ++ asked)
CallsOf p (Went now action ∷ log) calls = CallsOf p log calls
