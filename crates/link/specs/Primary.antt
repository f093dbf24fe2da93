-- The primary station of unbalanced transmission as a machine: whose turn it is, the request whose
-- answer is awaited, and what a call of it does.
use Rattle.std.specs.Prelude.{ℕ, ◌+◌, ◌==◌, ◌||◌, ◌&&◌, nat_le, Bool, true, false, not, List, []}
use Rattle.std.specs.Prelude.{◌++◌, map, length, slice_set, Option, Some, None}
use Rattle.std.specs.Prelude.{if◌then◌else◌}
use Rattle.ft12.specs.declared.frame.Front.{Front}
use Rattle.ft12.specs.declared.frame.Front.TheVariants.{Whole, More, Never}
use Rattle.ft12.specs.Spelling.{spelling}
use Rattle.link.specs.Answers.{Frame, Single, Fixed, Data, Command, Asked, Reset, Counted, Answer}
use Rattle.link.specs.Answers.{Confirmed, Busy, Report, NoData, Unable, answer_of}
use Rattle.link.specs.Control.{shows_acd, shows_dfc}
use Rattle.std.specs.Io.Iter.{u64_saturate}
use Rattle.link.specs.Exchanges.{Sending, whole_of}
use Rattle.link.specs.Procedure.{LinkSettings, Down, after_answer, after_silence, is_held}
use Rattle.link.specs.Procedure.{has_repeats, goes_down, is_service}
use Rattle.link.specs.Requests.{request_frame, kind_of}
use Rattle.link.specs.Turns.{StationState, SessionState, no_session, Phase, Starting, Over}
use Rattle.link.specs.Turns.{station_at, is_poll, wanted, Chosen, chosen_or, first_after}
use Rattle.link.specs.Turns.{CommandsWaiting}
pub use Rattle.link.specs.declared.request.Request.{Request}
pub use Rattle.link.specs.declared.outcome.Outcome.{Outcome}
pub use Rattle.link.specs.declared.outcome.Outcome.TheVariants as outcome

-- The request whose answer is awaited, since when, and the octets so far of its exchange. None:
-- they can't be the answer any more. And whether any octets came in it.
pub record Outstanding : Type 0 where
  pub request : Asked
  pub since : ℕ
  pub arrived : Option (List ℕ)
  pub has_octets : Bool

-- the primary, with the station whose turn it is, what the turn goes on with, whether an unanswered
-- service is sent again at once, and how many exchanges were spoilt
pub record Primary : Type 0 where
  pub settings : LinkSettings
  pub stations : List StationState
  pub turn : ℕ
  pub phase : Phase
  pub again : Bool
  pub outstanding : Option Outstanding
  pub spoilt : ℕ

abbrev pub station_down : (address : ℕ) → StationState
station_down address = record {
  address = address;
  link = Down;
  acd = false;
  dfc = false;
  session = no_session;
  unsure = false;
}

-- A primary of these stations, whose links are down. The first turn is the first station's.
abbrev pub start : LinkSettings → (addresses : List ℕ) → Primary
start settings addresses = record {
  settings = settings;
  stations = map station_down addresses;
  turn = 0;
  phase = Starting;
  again = false;
  outstanding = None;
  spoilt = 0;
}

-- `next`

-- the next request: the present turn goes on, or else the stations are looked at once round, from
-- the one after the last served
abbrev pub choice : Primary → (may_poll : Bool) → CommandsWaiting → Option Chosen
choice p may_poll waiting =
    chosen_or (wanted p.settings.burst may_poll p.again
    (station_at p.stations p.turn) (waiting p.turn) p.phase) p.turn
    (first_after p.settings.burst may_poll p.stations waiting (length p.stations) p.turn)

-- A poll that goes out may give a report that is never taken.
abbrev pub session_asked : SessionState → Asked → SessionState
session_asked s (Counted fcb service) = record { number = s.number; has_gap = is_poll service }
session_asked s request = s

abbrev pub station_asked : StationState → Asked → StationState
station_asked s request = record {
  address = s.address;
  link = s.link;
  acd = s.acd;
  dfc = s.dfc;
  session = session_asked s.session request;
  unsure = s.unsure;
}

abbrev pub after_choice : Primary → (now : ℕ) → Option Chosen → Primary
after_choice p now None = record p { phase = Over; again = false }
after_choice p now (Some c) = record p {
  stations =
      slice_set p.stations c.station
      (station_asked (station_at p.stations c.station) c.wanted.request);
  turn = c.station;
  phase = c.wanted.following;
  again = false;
  outstanding = Some (record {
    request = c.wanted.request;
    since = now;
    arrived = Some [];
    has_octets = false;
  });
}

-- Nothing goes out while a request is outstanding.
abbrev pub asked_from : Primary → Option Outstanding → (now : ℕ) → (may_poll : Bool) →
    CommandsWaiting → Primary
asked_from p (Some o) now may_poll waiting = p
asked_from p None now may_poll waiting = after_choice p now (choice p may_poll waiting)

-- the primary after `next`
abbrev pub asked : Primary → (now : ℕ) → (may_poll : Bool) → CommandsWaiting → Primary
asked p now may_poll waiting = asked_from p p.outstanding now may_poll waiting

abbrev pub sending_by : Option Chosen → Option Sending
sending_by None = None
sending_by (Some c) = Some (record { station = c.station; request = c.wanted.request })

abbrev pub sending_from : Primary → Option Outstanding → (may_poll : Bool) → CommandsWaiting →
    Option Sending
sending_from p (Some o) may_poll waiting = None
sending_from p None may_poll waiting = sending_by (choice p may_poll waiting)

-- the request that `next` sends
abbrev pub sending : Primary → (may_poll : Bool) → CommandsWaiting → Option Sending
sending p may_poll waiting = sending_from p p.outstanding may_poll waiting

-- The request as it is put on the line. It is sent again if it is the station's held service.
abbrev pub request_of : Primary → Sending → Request
request_of p s = record {
  octets = record {
    items =
        spelling p.settings.size (request_frame
        (station_at p.stations s.station).address s.request);
  };
  station = s.station;
  kind = kind_of s.request;
  again = is_held (station_at p.stations s.station).link;
}

-- `octets`

-- ACD: class 1 data wait
unfoldable pub acd_of : Frame → Bool
acd_of Single = false
acd_of (Fixed control address) = shows_acd control
acd_of (Data control address body) = shows_acd control

-- DFC: no more user data are taken
unfoldable pub dfc_of : Frame → Bool
dfc_of Single = false
dfc_of (Fixed control address) = shows_dfc control
dfc_of (Data control address body) = shows_dfc control

-- The turn is over if the station couldn't serve the request.
abbrev pub phase_after : Answer → Phase → Phase
phase_after Unable phase = Over
phase_after answer phase = phase

-- A confirmed reset begins the next session. What a poll asked for is known once it is answered,
-- save that it couldn't be served.
unfoldable pub session_answered : SessionState → Asked → Answer → SessionState
session_answered s Reset Confirmed = record {
  number = u64_saturate (s.number + 1);
  has_gap =
      false;
}
session_answered s (Counted fcb service) Unable = s
session_answered s (Counted fcb service) answer = record { number = s.number; has_gap = false }
session_answered s request answer = s

abbrev pub station_answered : StationState → Asked → Frame → Answer → StationState
station_answered s request frame answer = record {
  address = s.address;
  link = after_answer request answer s.link;
  acd = acd_of frame;
  dfc = dfc_of frame;
  session = session_answered s.session request answer;
  unsure = s.unsure && not (is_service request);
}

-- The exchange of the station whose turn it is ends by an answer.
abbrev pub answered : Primary → Asked → Frame → Answer → Primary
answered p request frame answer = record p {
  stations =
      slice_set p.stations p.turn
      (station_answered (station_at p.stations p.turn) request frame answer);
  phase = phase_after answer p.phase;
  again = false;
  outstanding = None;
}

-- what the frame says to the request
abbrev pub answer_at : Primary → Outstanding → Frame → Option Answer
answer_at p o frame = answer_of (station_at p.stations p.turn).address o.request frame

-- the answer is awaited, with these octets so far
abbrev pub awaits : Primary → Outstanding → (arrived : Option (List ℕ)) → Primary
awaits p o arrived = record p {
  outstanding = Some (record {
    request = o.request;
    since = o.since;
    arrived = arrived;
    has_octets = o.has_octets;
  });
}

-- A frame that doesn't fit can't be the answer, nor what comes after it.
abbrev pub said_by : Primary → Outstanding → Frame → Option Answer → Primary
said_by p o frame None = awaits p o None
said_by p o frame (Some answer) = answered p o.request frame answer

-- the octets that may still become a frame
abbrev pub open_octets : List ℕ → Front → Option (List ℕ)
open_octets octets More = Some octets
open_octets octets (Never place why) = None
open_octets octets (Whole frame n) = Some []

-- The octets so far are these, or there is a frame at their front.
abbrev pub took : Primary → Outstanding → (arrived : Option (List ℕ)) → Option Frame → Primary
took p o arrived None = awaits p o arrived
took p o arrived (Some frame) = said_by p o frame (answer_at p o frame)

-- a frame stands at the front of the exchange
abbrev pub answered_with : Primary → Option Outstanding → Frame → Primary
answered_with p None frame = p
answered_with p (Some o) frame = said_by p o frame (answer_at p o frame)

-- octets come in its exchange
abbrev pub with_octets : List ℕ → Outstanding → Outstanding
with_octets octets o = record {
  request = o.request;
  since = o.since;
  arrived = o.arrived;
  has_octets = o.has_octets || not (length octets == 0);
}

abbrev pub received_after : (front : List ℕ → Front) → Primary → Outstanding → Option (List ℕ) →
    List ℕ → Primary
received_after front p o None octets = awaits p o None
received_after front p o (Some before) octets =
    took p o (open_octets (before ++ octets) (front (before ++ octets)))
    (whole_of (front (before ++ octets)))

abbrev pub received_from : (front : List ℕ → Front) → Primary → Option Outstanding → List ℕ →
    Primary
received_from front p None octets = p
received_from front p (Some o) octets = received_after front p (with_octets octets o) o.arrived
    octets

-- the primary after `octets`, by a reader of fronts
abbrev pub received : (front : List ℕ → Front) → Primary → List ℕ → Primary
received front p octets = received_from front p p.outstanding octets

-- what the caller learns of an answer
abbrev pub outcome_by : (station : ℕ) → Asked → Answer → Outcome
outcome_by station Reset Confirmed = outcome.Started station
outcome_by station (Counted fcb service) Confirmed = outcome.Accepted station
outcome_by station request Busy = outcome.Busy station
outcome_by station request (Report asdu) = outcome.Report station (record { items = asdu })
outcome_by station request NoData = outcome.Empty station
outcome_by station request Unable = outcome.Down station
outcome_by station request answer = outcome.None

abbrev pub outcome_of : (station : ℕ) → Asked → Option Answer → Outcome
outcome_of station request None = outcome.None
outcome_of station request (Some answer) = outcome_by station request answer

-- the number of the session that a start ends, if that has a gap
abbrev pub gap_of : SessionState → Option ℕ
gap_of s = if s.has_gap then Some s.number else None

abbrev pub turn_gap : Primary → Option ℕ
turn_gap p = gap_of (station_at p.stations p.turn).session

-- A start that ends a session with a gap gives its number.
abbrev pub started : (station : ℕ) → (gap : Option ℕ) → Outcome
started station None = outcome.Started station
started station (Some session) = outcome.StartedGap station session

abbrev pub with_gap : (gap : Option ℕ) → Outcome → Outcome
with_gap gap (outcome.Started station) = started station gap
with_gap gap other = other

abbrev pub outcome_at : Primary → Outstanding → Option Frame → Outcome
outcome_at p o None = outcome.None
outcome_at p o (Some frame) =
    with_gap (turn_gap p) (outcome_of p.turn o.request (answer_at p o frame))

abbrev pub answer_outcome : Primary → Option Outstanding → Frame → Outcome
answer_outcome p None frame = outcome.None
answer_outcome p (Some o) frame =
    with_gap (turn_gap p) (outcome_of p.turn o.request (answer_at p o frame))

abbrev pub outcome_after : (front : List ℕ → Front) → Primary → Outstanding → Option (List ℕ) →
    List ℕ → Outcome
outcome_after front p o None octets = outcome.None
outcome_after front p o (Some before) octets = outcome_at p o (whole_of (front (before ++ octets)))

abbrev pub outcome_from : (front : List ℕ → Front) → Primary → Option Outstanding → List ℕ → Outcome
outcome_from front p None octets = outcome.None
outcome_from front p (Some o) octets = outcome_after front p o o.arrived octets

-- what `octets` answers
abbrev pub received_outcome : (front : List ℕ → Front) → Primary → List ℕ → Outcome
received_outcome front p octets = outcome_from front p p.outstanding octets

-- `due`

abbrev pub station_unanswered : LinkSettings → StationState → Asked → StationState
station_unanswered settings s request =
    record {
      address = s.address;
      link = after_silence settings request true s.link;
      acd = s.acd;
      dfc = s.dfc;
      session = s.session;
      unsure = s.unsure;
    }

-- The exchange of the station whose turn it is ends with no answer, and is spoilt if octets came in
-- it. The turn is over, unless the service is sent again at once.
abbrev pub unanswered : Primary → Outstanding → Primary
unanswered p o =
    let s = station_unanswered p.settings (station_at p.stations p.turn) o.request in
    record p {
      stations = slice_set p.stations p.turn s;
      phase = if has_repeats p.settings s.link then p.phase else Over;
      again = has_repeats p.settings s.link;
      outstanding = None;
      spoilt = if o.has_octets then u64_saturate (p.spoilt + 1) else p.spoilt;
    }

abbrev pub is_late : Primary → Outstanding → (now : ℕ) → Bool
is_late p o now = nat_le (o.since + p.settings.answer_ms) now

abbrev pub due_from : Primary → Option Outstanding → (now : ℕ) → Primary
due_from p None now = p
due_from p (Some o) now = if is_late p o now then unanswered p o else p

-- the primary after `due`
abbrev pub timed_out : Primary → (now : ℕ) → Primary
timed_out p now = due_from p p.outstanding now

-- If the station's link is down now, the caller learns it.
abbrev pub miss_outcome : Primary → Asked → Outcome
miss_outcome p request =
    if goes_down request (after_silence p.settings request true
    (station_at p.stations p.turn).link) then outcome.Down p.turn else outcome.None

abbrev pub due_outcome_from : Primary → Option Outstanding → (now : ℕ) → Outcome
due_outcome_from p None now = outcome.None
due_outcome_from p (Some o) now =
    if is_late p o now then miss_outcome p o.request else outcome.None

-- what `due` answers
abbrev pub due_outcome : Primary → (now : ℕ) → Outcome
due_outcome p now = due_outcome_from p p.outstanding now

-- commands

abbrev pub is_command : Asked → Bool
is_command (Counted fcb (Command asdu)) = true
is_command request = false

abbrev pub is_sending_command : Option Outstanding → Bool
is_sending_command None = false
is_sending_command (Some o) = is_command o.request
