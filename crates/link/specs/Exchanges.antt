-- Exchanges: a request, what came until the next one, and its answer (IEC 60870-5-2, unbalanced
-- transmission procedures; which octets of the line belong to an exchange is this gateway's own
-- profile).
use Rattle.std.specs.Prelude.{◌≡◌, ℕ, ◌+◌, ◌==◌, ◌&&◌, ◌||◌, not, nat_le, Bool, true, false, List}
use Rattle.std.specs.Prelude.{[], ◌∷◌, ◌++◌, length, count_by, Option, Some, None, is_none, IsSome}
use Rattle.std.specs.Prelude.{option_and_then, if◌then◌else◌}
use Rattle.ft12.specs.declared.frame.Front.{Front}
use Rattle.ft12.specs.declared.frame.Front.TheVariants.{Whole, More, Never}
use Rattle.link.specs.Answers.{Frame, Asked, Answer, Report, answer_of}

-- A request to one station, the whole frame at the front of the octets of its exchange, if there
-- was one, whether the time to answer is over, and whether the link to the station was given up
-- behind it, at a restart.
pub record Exchange : Type 0 where
  pub request : Asked
  pub front : Option Frame
  pub closed : Bool
  pub given_up : Bool

-- The answer: what the frame at the front says, if it fits the request.
abbrev pub answer_to : (station : ℕ) → Exchange → Option Answer
answer_to station x = option_and_then (answer_of station x.request) x.front

abbrev pub IsAnswered : (station : ℕ) → Exchange → Type 0
IsAnswered station x = IsSome (answer_to station x)

-- neither answered, nor closed, nor given up
abbrev pub IsOutstanding : (station : ℕ) → Exchange → Type 0
IsOutstanding station x =
    (answer_to station x ≡ None) × (x.closed ≡ false) × (x.given_up ≡ false)

-- closed, and not answered
abbrev pub IsUnanswered : (station : ℕ) → Exchange → Type 0
IsUnanswered station x = (answer_to station x ≡ None) × (x.closed ≡ true)

-- an exchange of a line with several stations, named by their index
pub record LineExchange : Type 0 where
  pub station : ℕ
  pub exchange : Exchange

-- those with one station
abbrev pub with_station : (station : ℕ) → List LineExchange → List Exchange
with_station station [] = []
with_station station (e ∷ es) =
    if e.station == station then e.exchange ∷ with_station station es else with_station station es

-- a request that goes out: the station's index, and what it asks for
pub record Sending : Type 0 where
  pub station : ℕ
  pub request : Asked

-- An exchange so far, with the moment of its request, and all octets that came. None are added once
-- it is closed, and nothing changes it once the link to its station was given up.
pub record OpenExchange : Type 0 where
  pub station : ℕ
  pub request : Asked
  pub since : ℕ
  pub octets : List ℕ
  pub closed : Bool
  pub given_up : Bool

-- the exchanges of a line: those that ended by a next request, and the latest
pub record Exchanges : Type 0 where
  pub ended : List OpenExchange
  pub current : Option OpenExchange

abbrev pub as_list : Option OpenExchange → List OpenExchange
as_list None = []
as_list (Some x) = x ∷ []

abbrev pub all_of : Exchanges → List OpenExchange
all_of e = e.ended ++ as_list e.current

abbrev pub no_exchanges : Exchanges
no_exchanges = record { ended = []; current = None }

-- Octets come.
abbrev pub received_octets : List ℕ → OpenExchange → OpenExchange
received_octets octets x = record {
  station = x.station;
  request = x.request;
  since = x.since;
  octets = if x.closed || x.given_up then x.octets else x.octets ++ octets;
  closed = x.closed;
  given_up = x.given_up;
}

abbrev pub received_current : List ℕ → Option OpenExchange → Option OpenExchange
received_current octets None = None
received_current octets (Some x) = Some (received_octets octets x)

-- A moment comes. It closes the exchange if it is answer_ms past the request.
abbrev pub timed : (answer_ms at : ℕ) → OpenExchange → OpenExchange
timed answer_ms at x = record {
  station = x.station;
  request = x.request;
  since = x.since;
  octets = x.octets;
  closed = x.closed || (not x.given_up && nat_le (x.since + answer_ms) at);
  given_up = x.given_up;
}

abbrev pub timed_current : (answer_ms at : ℕ) → Option OpenExchange → Option OpenExchange
timed_current answer_ms at None = None
timed_current answer_ms at (Some x) = Some (timed answer_ms at x)

-- A request goes out, or none: it ends the exchange before it, and begins one.
abbrev pub begun_by : (at : ℕ) → Option Sending → Exchanges → Exchanges
begun_by at None e = e
begun_by at (Some s) e = record {
  ended = e.ended ++ as_list e.current;
  current = Some (record {
    station = s.station;
    request = s.request;
    since = at;
    octets = [];
    closed = false;
    given_up = false;
  });
}

-- The link to the station is given up behind this exchange.
abbrev pub marked : OpenExchange → OpenExchange
marked x = record {
  station = x.station;
  request = x.request;
  since = x.since;
  octets = x.octets;
  closed = x.closed;
  given_up = true;
}

-- One of these exchanges is with the station.
abbrev pub has_one_with : (station : ℕ) → List OpenExchange → Bool
has_one_with station [] = false
has_one_with station (x ∷ xs) = (x.station == station) || has_one_with station xs

-- The latest of these exchanges with the station is marked, if there is one.
abbrev pub latest_marked : (station : ℕ) → List OpenExchange → List OpenExchange
latest_marked station [] = []
latest_marked station (x ∷ xs) =
    if (x.station == station) && not (has_one_with station xs) then marked x ∷ xs
    else x ∷ latest_marked station xs

abbrev pub given_up_from : (station : ℕ) → List OpenExchange → Option OpenExchange → Exchanges
given_up_from station ended None = record { ended = latest_marked station ended; current = None }
given_up_from station ended (Some x) =
    if x.station == station then record { ended = ended; current = Some (marked x) }
    else record { ended = latest_marked station ended; current = Some x }

-- The link to the station is given up, behind the latest exchange with it.
abbrev pub given_up_at : (station : ℕ) → Exchanges → Exchanges
given_up_at station e = given_up_from station e.ended e.current

-- the frame at the front of octets, by a reader of fronts
abbrev pub whole_of : Front → Option Frame
whole_of (Whole frame n) = Some frame
whole_of More = None
whole_of (Never place why) = None

-- what an exchange so far shows
abbrev pub view : (front : List ℕ → Front) → OpenExchange → LineExchange
view front x = record {
  station = x.station;
  exchange = record {
    request = x.request;
    front = whole_of (front x.octets);
    closed = x.closed;
    given_up = x.given_up;
  };
}

abbrev pub views : (front : List ℕ → Front) → List OpenExchange → List LineExchange
views front [] = []
views front (x ∷ xs) = view front x ∷ views front xs

-- the report that an answer bears, with the station's index
abbrev pub report_by : (station : ℕ) → Option Answer → List (ℕ × List ℕ)
report_by station (Some (Report asdu)) = (station, asdu) ∷ []
report_by station answer = []

-- the reports of these exchanges, in order: the data of each poll that was answered with data
abbrev pub reports_of : (address : ℕ → ℕ) → List LineExchange → List (ℕ × List ℕ)
reports_of address [] = []
reports_of address (e ∷ es) =
    report_by e.station (answer_to (address e.station) e.exchange) ++ reports_of address es

abbrev pub reports_of_exchanges : (front : List ℕ → Front) → (address : ℕ → ℕ) → Exchanges →
    List (ℕ × List ℕ)
reports_of_exchanges front address e = reports_of address (views front (all_of e))

-- Spoilt (this gateway's own profile): closed, with octets, and not answered.
abbrev pub is_spoilt : (front : List ℕ → Front) → (address : ℕ) → OpenExchange → Bool
is_spoilt front address x =
    x.closed && (not (length x.octets == 0) && is_none (answer_to address (view front x).exchange))

-- how many of these exchanges are spoilt
abbrev pub spoilt_count : (front : List ℕ → Front) → (address : ℕ → ℕ) → List OpenExchange → ℕ
spoilt_count front address xs = count_by (λ x. is_spoilt front (address x.station) x) xs
