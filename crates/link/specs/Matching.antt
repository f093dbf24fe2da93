-- What the state of a primary station says of the exchanges of its line.
use Rattle.std.specs.Prelude.{◌≡◌, ℕ, ◌<◌, ◌==◌, ◌⊎◌, not, true, false, List, [], ◌∷◌, ◌++◌, length}
use Rattle.std.specs.Prelude.{slice_index, Option, Some, None, option_and_then, if◌then◌else◌}
use Rattle.ft12.specs.declared.frame.Front.{Front}
use Rattle.ft12.specs.declared.frame.Front.TheVariants.{Whole, More, Never}
use Rattle.ft12.specs.declared.frame.Frame.{Frame}
use Rattle.ft12.specs.declared.frame.Why.{Why}
use Rattle.ft12.specs.Fronts.{front_of}
use Rattle.link.specs.Answers.{Answer, answer_of}
use Rattle.std.specs.Io.Iter.{u64_saturate}
use Rattle.link.specs.Delivery.{is_gap, pending_after}
use Rattle.link.specs.Exchanges.{Sending, Exchange, OpenExchange, Exchanges, all_of, whole_of}
use Rattle.link.specs.Exchanges.{views, with_station, spoilt_count}
use Rattle.link.specs.Flags.{Flags, clear, flags_after}
use Rattle.link.specs.Gaps.{resets_in}
use Rattle.link.specs.Procedure.{LinkSettings, Down, MaySend, KeepsFrameCountBit, link_after}
use Rattle.link.specs.Requests.{FitsAddress, FitsAsked}
use Rattle.link.specs.Turns.{StationState, SessionState, station_at}
use Rattle.link.specs.Primary.{Outstanding, Primary, Outcome}
use Rattle.link.specs.declared.outcome.Outcome.TheVariants as outcome
use Rattle.link.specs.Holding.{IsFitting}
use Rattle.link.specs.Runs.{AreCalled}

-- A reader of fronts gives each as soon as it is decided, and then sticks to it.
pub record IsStable (front : List ℕ → Front) : Type 0 where
  pub nothing : front [] ≡ More
  pub whole : (octets more : List ℕ) (frame : Frame) (n : ℕ) → front octets ≡ Whole frame n →
      front (octets ++ more) ≡ Whole frame n
  pub never : (octets more : List ℕ) (place : ℕ) (why : Why) → front octets ≡ Never place why →
      front (octets ++ more) ≡ Never place why

-- Whatever octets more come in the exchange, its answer is this one.
abbrev pub IsSaid : (front : List ℕ → Front) → (address : ℕ) → OpenExchange → Option Answer → Type 0
IsSaid front address x m =
    (more : List ℕ) → option_and_then (answer_of address x.request)
    (whole_of (front (x.octets ++ more))) ≡ m

-- what is outstanding may have been sent
abbrev pub IsAllowed : List StationState → (turn : ℕ) → Option Outstanding → Type 0
IsAllowed stations turn None = Unit {0}
IsAllowed stations turn (Some o) = MaySend (station_at stations turn).link o.request

-- The octets so far are those of the exchange, which may still become a frame; or they can't be the
-- answer any more.
abbrev pub IsReceived : (front : List ℕ → Front) → (address : ℕ) → OpenExchange → Option (List ℕ) →
    Type 0
IsReceived front address x (Some octets) = (octets ≡ x.octets) × (front x.octets ≡ More)
IsReceived front address x None = IsSaid front address x None

-- What is outstanding is the latest exchange.
pub record IsAwaited (front : List ℕ → Front) (address : ℕ) (turn : ℕ) (o : Outstanding)
    (x : OpenExchange) : Type 0 where
  pub station : x.station ≡ turn
  pub request : x.request ≡ o.request
  pub since : x.since ≡ o.since
  pub waits : x.closed ≡ false
  pub stands : x.given_up ≡ false
  pub arrived : IsReceived front address x o.arrived
  pub has_octets : o.has_octets ≡ not (length x.octets == 0)

-- an exchange that is over for the primary: closed, answered, or given up
abbrev pub IsOver : (front : List ℕ → Front) → (address : ℕ) → OpenExchange → Type 0
IsOver front address x =
    (x.closed ≡ true) ⊎ ((x.given_up ≡ true)
    ⊎ ((answer : Answer) × IsSaid front address x (Some answer)))

abbrev pub IsCurrent : (front : List ℕ → Front) → (addresses : List ℕ) → (turn : ℕ) →
    Option Outstanding → Option OpenExchange → Type 0
IsCurrent front addresses turn None None = Unit {0}
IsCurrent front addresses turn None (Some x) = IsOver front (slice_index addresses x.station) x
IsCurrent front addresses turn (Some o) None = ⊥
IsCurrent front addresses turn (Some o) (Some x) =
    IsAwaited front (slice_index addresses turn) turn o x

-- the exchanges whose outcome the links know
abbrev pub past : Option Outstanding → Exchanges → List OpenExchange
past None e = all_of e
past (Some o) e = e.ended

-- These exchanges keep the frame count bit of each station.
abbrev pub AreKept : (front : List ℕ → Front) → LinkSettings → (addresses : List ℕ) →
    List OpenExchange → Type 0
AreKept front settings addresses xs =
    (i : ℕ) → KeepsFrameCountBit settings (slice_index addresses i) Down
    (with_station i (views front xs))

-- The stations' links are those that these exchanges leave.
abbrev pub AreLinks : (front : List ℕ → Front) → LinkSettings → (addresses : List ℕ) →
    List StationState → List OpenExchange → Type 0
AreLinks front settings addresses stations xs =
    (i : ℕ) → link_after settings (slice_index addresses i) Down (with_station i (views front xs))
    ≡ (station_at stations i).link

-- So many of these exchanges are spoilt.
abbrev pub AreSpoilt : (front : List ℕ → Front) → (addresses : List ℕ) → (spoilt : ℕ) →
    List OpenExchange → Type 0
AreSpoilt front addresses spoilt xs =
    spoilt ≡ u64_saturate (spoilt_count front (λ i. slice_index addresses i) xs)

abbrev pub flags_of : StationState → Flags
flags_of s = record { acd = s.acd; dfc = s.dfc }

-- The stations' flags are those that these exchanges leave.
abbrev pub AreFlags : (front : List ℕ → Front) → (addresses : List ℕ) → List StationState →
    List OpenExchange → Type 0
AreFlags front addresses stations xs =
    (i : ℕ) → flags_after (slice_index addresses i) clear (with_station i (views front xs))
    ≡ flags_of (station_at stations i)

-- the session that these exchanges with a station leave
abbrev pub session_in : (station : ℕ) → List Exchange → SessionState
session_in station xs = record {
  number = u64_saturate (resets_in station xs);
  has_gap = is_gap (pending_after station None xs);
}

-- The stations' sessions are those that these exchanges leave.
abbrev pub AreSessions : (front : List ℕ → Front) → (addresses : List ℕ) → List StationState →
    List OpenExchange → Type 0
AreSessions front addresses stations xs =
    (i : ℕ) → session_in (slice_index addresses i) (with_station i (views front xs))
    ≡ (station_at stations i).session

-- the same by any reader of fronts
pub record MatchesBy (front : List ℕ → Front) (settings : LinkSettings) (addresses : List ℕ)
    (p : Primary) (e : Exchanges) : Type 0 where
  pub settings_are : p.settings ≡ settings
  pub fits : IsFitting p
  pub count : length p.stations ≡ length addresses
  pub address : (i : ℕ) → (station_at p.stations i).address ≡ slice_index addresses i
  pub allowed : IsAllowed p.stations p.turn p.outstanding
  pub current : IsCurrent front addresses p.turn p.outstanding e.current
  pub keeps : AreKept front settings addresses (all_of e)
  pub links : AreLinks front settings addresses p.stations (past p.outstanding e)
  pub flags : AreFlags front addresses p.stations (all_of e)
  pub sessions : AreSessions front addresses p.stations (all_of e)
  pub spoilt : AreSpoilt front addresses p.spoilt (all_of e)
  pub called : AreCalled settings addresses p e

-- The primary's state is what these exchanges make it, and they keep the frame count bit of each
-- station.
abbrev pub Matches : LinkSettings → (addresses : List ℕ) → Primary → Exchanges → Type 0
Matches settings addresses p e = MatchesBy (front_of settings.size) settings addresses p e

-- the report that an outcome bears
abbrev pub report_in : Outcome → List (ℕ × List ℕ)
report_in (outcome.Report station asdu) = (station, asdu.items) ∷ []
report_in other = []

-- the session of this station whose gap an outcome reports
abbrev pub gap_in_outcome : (station : ℕ) → Outcome → List ℕ
gap_in_outcome station (outcome.StartedGap other session) =
    if other == station then session ∷ [] else []
gap_in_outcome station other = []

-- The request is to one of the stations, and fits the line.
pub record IsFittingSending (settings : LinkSettings) (addresses : List ℕ)
    (s : Sending) : Type 0 where
  pub station : s.station < length addresses
  pub address : FitsAddress settings.size (slice_index addresses s.station)
  pub request : FitsAsked settings.size s.request
