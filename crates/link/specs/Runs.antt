-- Whole runs of a primary station: its calls, one after another, and the exchanges of its line
-- meanwhile.
use Rattle.std.specs.Prelude.{◌≡◌, ℕ, zero, suc, ◌<◌, ◌&&◌, not, Bool, false, List, [], ◌∷◌}
use Rattle.std.specs.Prelude.{length, Option, Some, None, if◌then◌else◌}
use Rattle.ft12.specs.declared.frame.LinkSize.{LinkSize}
use Rattle.ft12.specs.Fronts.{front_of}
use Rattle.link.specs.Exchanges.{Exchanges, Sending, no_exchanges, received_current, timed_current}
use Rattle.link.specs.Exchanges.{begun_by, given_up_at}
use Rattle.link.specs.Carried.{given_up, doubted}
use Rattle.link.specs.Procedure.{LinkSettings, Link, is_up}
use Rattle.link.specs.Requests.{FitsAsked, IsUserData}
use Rattle.link.specs.Turns.{Starting, Wanted, CommandsWaiting, station_at, wanted, place_after}
use Rattle.link.specs.Primary.{Primary, start, asked, sending, received, timed_out, Outcome}
use Rattle.link.specs.declared.outcome.Outcome.TheVariants as outcome

pub data Call : Type 0 where
  Next : (now : ℕ) → (may_poll : Bool) → (waiting : CommandsWaiting) → Call
  Octets : (octets : List ℕ) → Call
  Due : (now : ℕ) → Call
  GivesUp : (station : ℕ) → Call
  Doubts : Call

-- the primary after a call
abbrev pub called : Primary → Call → Primary
called p (Next now may_poll waiting) = asked p now may_poll waiting
called p (Octets octets) = received (front_of p.settings.size) p octets
called p (Due now) = timed_out p now
called p (GivesUp station) = given_up station p
called p Doubts = doubted p

-- the exchanges of its line after the call
abbrev pub exchanged : Primary → Call → Exchanges → Exchanges
exchanged p (Next now may_poll waiting) e = begun_by now (sending p may_poll waiting) e
exchanged p (Octets octets) e =
    record { ended = e.ended; current = received_current octets e.current }
exchanged p (Due now) e = record {
  ended = e.ended;
  current = timed_current p.settings.answer_ms now e.current;
}
exchanged p (GivesUp station) e = given_up_at station e
exchanged p Doubts e = e

-- What waits is user data that a frame can carry.
abbrev pub AreUserData : LinkSize → CommandsWaiting → Type 0
AreUserData size waiting =
    (station : ℕ) (asdu : List ℕ) → waiting station ≡ Some asdu → IsUserData size asdu

-- The request that goes out is one that a frame can carry.
abbrev pub FitsLine : Primary → (may_poll : Bool) → CommandsWaiting → Type 0
FitsLine p may_poll waiting =
    (s : Sending) → sending p may_poll waiting ≡ Some s → FitsAsked p.settings.size s.request

-- The call is one that may be made: what goes out fits the line, and a link that is given up is
-- one of the stations'.
abbrev pub MayCall : Primary → Call → Type 0
MayCall p (Next now may_poll waiting) = FitsLine p may_poll waiting
MayCall p (GivesUp station) = station < length p.stations
MayCall p call = Unit {0}

abbrev pub MayCallAll : Primary → List Call → Type 0
MayCallAll p [] = Unit {0}
MayCallAll p (call ∷ calls) = MayCall p call × MayCallAll (called p call) calls

abbrev pub called_all : Primary → List Call → Primary
called_all p [] = p
called_all p (call ∷ calls) = called_all (called p call) calls

abbrev pub exchanged_all : Primary → List Call → Exchanges → Exchanges
exchanged_all p [] e = e
exchanged_all p (call ∷ calls) e = exchanged_all (called p call) calls (exchanged p call e)

-- The primary, and the exchanges of its line, are what calls that may be made have made of a new
-- one.
pub record AreCalled (settings : LinkSettings) (addresses : List ℕ) (p : Primary)
    (e : Exchanges) : Type 0 where
  pub calls : List Call
  pub may : MayCallAll (start settings addresses) calls
  pub primary : called_all (start settings addresses) calls ≡ p
  pub exchanges : exchanged_all (start settings addresses) calls no_exchanges ≡ e

-- Turns

-- the place so many after this one, round the stations
abbrev pub nth_after : (count place : ℕ) → ℕ → ℕ
nth_after count place zero = place
nth_after count place (suc n) = nth_after count (place_after count place) n

-- what a station's turn would begin with
abbrev pub first_request : Primary → (may_poll : Bool) → CommandsWaiting → (station : ℕ) →
    Option Wanted
first_request p may_poll waiting station =
    wanted p.settings.burst may_poll false (station_at p.stations station) (waiting station)
    Starting

-- The request begins a turn of the first station, round from the one after the last served, that
-- has a request.
pub record BeginsTurn (p : Primary) (may_poll : Bool) (waiting : CommandsWaiting)
    (s : Sending) : Type 0 where
  pub steps : ℕ
  pub once_round : steps < length p.stations
  pub station : s.station ≡ nth_after (length p.stations) p.turn (suc steps)
  pub wanted : Wanted
  pub first : first_request p may_poll waiting s.station ≡ Some wanted
  pub request : s.request ≡ wanted.request
  pub nearer : (n : ℕ) → n < steps →
      first_request p may_poll waiting (nth_after (length p.stations) p.turn (suc n)) ≡ None

-- No station has a request.
abbrev pub HaveNone : Primary → (may_poll : Bool) → CommandsWaiting → Type 0
HaveNone p may_poll waiting =
    (n : ℕ) → n < length p.stations →
    first_request p may_poll waiting (nth_after (length p.stations) p.turn (suc n)) ≡ None

-- Silence

-- A silence is reported if it takes a link down that was up.
abbrev pub silence_outcome : (station : ℕ) → (before later : Link) → Outcome
silence_outcome station before later =
    if is_up before && not (is_up later) then outcome.Down station else outcome.None
