-- The primary's state as lines of numbers, and what is made of such lines.
use Rattle.std.specs.Prelude.{◌≡◌, ℕ, ◌<◌, ◌==◌, ◌&&◌, nat_lt, Bool, true, false, if◌then◌else◌}
use Rattle.std.specs.Prelude.{List}
use Rattle.std.specs.Prelude.{[], ◌∷◌, Option, Some, None, IfSome, is_none}
use Rattle.std.specs.List.{AllByRecursion}
use Rattle.ft12.specs.Reading.{IsProperBeginning}
use Rattle.ft12.specs.Assembly.{so_far_numbers}
use Rattle.link.specs.Answers.{Asked, Status, Reset, Counted}
use Rattle.link.specs.Procedure.{LinkSettings}
use Rattle.link.specs.Turns.{StationState, Phase, Starting, Commanding, Polling, Class1Polling}
use Rattle.link.specs.Turns.{Over}
use Rattle.link.specs.Primary.{Primary, Outstanding}
use Rattle.link.specs.Holding.{IsFitting}
use Rattle.std.specs.List.{list_all}
use Rattle.ft12.specs.Spelling.{IsOctet}
use Rattle.std.specs.List.{All}
use Rattle.link.specs.Answers.{Service}
use Rattle.link.specs.declared.awaited.Awaited.{Awaited}
use Rattle.link.specs.declared.master.restoring.TurnLine.{TurnLine}
use Rattle.link.specs.Saved.{bit_number, bit_from, service_numbers, service_from, FitsSavedStation}
use Rattle.link.specs.Saved.{FitsSavedService, lines_of, StandBefore}

abbrev pub phase_numbers : Phase → List ℕ
phase_numbers Starting = 0 ∷ []
phase_numbers Commanding = 1 ∷ []
phase_numbers Polling = 2 ∷ []
phase_numbers (Class1Polling sent) = 3 ∷ sent ∷ []
phase_numbers Over = 4 ∷ []

abbrev pub asked_numbers : Asked → List ℕ
asked_numbers Status = 0 ∷ []
asked_numbers Reset = 1 ∷ []
asked_numbers (Counted fcb service) = 2 ∷ bit_number fcb ∷ service_numbers service

abbrev pub head_numbers : Primary → List ℕ
head_numbers p = p.turn ∷ bit_number p.again ∷ p.spoilt ∷ phase_numbers p.phase

abbrev pub awaited_numbers : Option Outstanding → List ℕ
awaited_numbers None = 0 ∷ []
awaited_numbers (Some o) = 1 ∷ o.since ∷ bit_number o.has_octets ∷ asked_numbers o.request

abbrev pub received_numbers : Option Outstanding → List ℕ
received_numbers None = 0 ∷ []
received_numbers (Some o) = so_far_numbers o.arrived

-- the lines of the whole state: its settings and how many stations there are stand elsewhere
abbrev pub primary_lines : Primary → List (List ℕ)
primary_lines p =
    head_numbers p ∷ received_numbers p.outstanding ∷ awaited_numbers p.outstanding
    ∷ lines_of p.stations

-- what came of the answer so far is the beginning of a frame
abbrev pub ReceivedIsResumable : Primary → Option Outstanding → Type 0
ReceivedIsResumable p None = Unit {0}
ReceivedIsResumable p (Some o) = IfSome o.arrived (IsProperBeginning p.settings.size)

abbrev pub ReceivedAreOctets : Option Outstanding → Type 0
ReceivedAreOctets None = Unit {0}
ReceivedAreOctets (Some o) = IfSome o.arrived (λ octets. All IsOctet octets)

abbrev pub FitsSavedAsked : Asked → Type 0
FitsSavedAsked Status = Unit {0}
FitsSavedAsked Reset = Unit {0}
FitsSavedAsked (Counted fcb service) = FitsSavedService service

abbrev pub FitsSavedOutstanding : Option Outstanding → Type 0
FitsSavedOutstanding None = Unit {0}
FitsSavedOutstanding (Some o) = FitsSavedAsked o.request

abbrev pub FitsSavedPhase : Phase → Type 0
FitsSavedPhase (Class1Polling sent) = sent < 256
FitsSavedPhase phase = Unit {0}

-- What holds of the state of each `Master`, and is needed to read it back.
pub record IsSavable (p : Primary) : Type 0 where
  pub fitting : IsFitting p
  pub stations : AllByRecursion FitsSavedStation p.stations
  pub phase : FitsSavedPhase p.phase
  pub outstanding : FitsSavedOutstanding p.outstanding
  pub arrived : ReceivedIsResumable p p.outstanding
  pub octets : ReceivedAreOctets p.outstanding

-- what was outstanding, with what arrived of its answer
abbrev pub outstanding_with : Option Outstanding → (arrived : Option (List ℕ)) → Option Outstanding
outstanding_with None arrived = None
outstanding_with (Some o) arrived = Some (record {
  request = o.request;
  since = o.since;
  arrived = arrived;
  has_octets = o.has_octets;
})

-- the head of a state
abbrev pub phase_by : ℕ → List ℕ → Option Phase
phase_by kind [] =
    if kind == 0 then Some Starting
    else if kind == 1 then Some Commanding
    else if kind == 2 then Some Polling
    else if kind == 4 then Some Over
    else None
phase_by kind (sent ∷ []) =
    if kind == 3 && nat_lt sent 256 then Some (Class1Polling sent) else None
phase_by kind ns = None

abbrev pub phase_from : List ℕ → Option Phase
phase_from [] = None
phase_from (kind ∷ ns) = phase_by kind ns

-- a state with all of its parts
abbrev pub primary_with : LinkSettings → TurnLine → Option Outstanding → List StationState → Primary
primary_with settings head outstanding stations = record {
  settings = settings;
  stations = stations;
  turn = head.turn;
  phase = head.phase;
  again = head.again;
  outstanding = outstanding;
  spoilt = head.spoilt;
}

abbrev pub head_by : (turn spoilt : ℕ) → Option Bool → Option Phase → Option TurnLine
head_by turn spoilt (Some again) (Some phase) =
    Some (record { turn = turn; again = again; spoilt = spoilt; phase = phase })
head_by turn spoilt again phase = None

abbrev pub head_from : List ℕ → Option TurnLine
head_from (turn ∷ again ∷ spoilt ∷ ns) = head_by turn spoilt (bit_from again) (phase_from ns)
head_from ns = None

abbrev pub counted_by : Option Bool → Option Service → Option Asked
counted_by (Some fcb) (Some service) = Some (Counted fcb service)
counted_by fcb service = None

abbrev pub counted_from : List ℕ → Option Asked
counted_from [] = None
counted_from (bit ∷ ns) = counted_by (bit_from bit) (service_from ns)

abbrev pub bare_asked : Asked → List ℕ → Option Asked
bare_asked asked [] = Some asked
bare_asked asked (n ∷ ns) = None

abbrev pub asked_by : ℕ → List ℕ → Option Asked
asked_by kind ns =
    if kind == 0 then bare_asked Status ns
    else if kind == 1 then bare_asked Reset ns
    else if kind == 2 then counted_from ns
    else None

abbrev pub asked_from : List ℕ → Option Asked
asked_from [] = None
asked_from (kind ∷ ns) = asked_by kind ns

abbrev pub awaited_with : (deaf : Bool) → (since : ℕ) → Option Bool → Option Asked
    → Option (Option Awaited)
awaited_with deaf since (Some has_octets) (Some request) =
    Some (Some (record { request = request; since = since; deaf = deaf; has_octets = has_octets }))
awaited_with deaf since has_octets request = None

abbrev pub some_awaited : (deaf : Bool) → List ℕ → Option (Option Awaited)
some_awaited deaf (since ∷ bit ∷ ns) = awaited_with deaf since (bit_from bit) (asked_from ns)
some_awaited deaf ns = None

abbrev pub no_awaited : List ℕ → Option (Option Awaited)
no_awaited [] = Some None
no_awaited (n ∷ ns) = None

abbrev pub awaited_by : (deaf : Bool) → ℕ → List ℕ → Option (Option Awaited)
awaited_by deaf kind ns =
    if kind == 0 then no_awaited ns else if kind == 1 then some_awaited deaf ns else None

abbrev pub awaited_from : (deaf : Bool) → List ℕ → Option (Option Awaited)
awaited_from deaf [] = None
awaited_from deaf (kind ∷ ns) = awaited_by deaf kind ns

-- nothing can be received any more
abbrev pub is_deaf : Option Outstanding → Bool
is_deaf None = true
is_deaf (Some o) = is_none o.arrived

-- the same as the program keeps it
abbrev pub awaited_of : Option Outstanding → Option Awaited
awaited_of None = None
awaited_of (Some o) = Some (record {
  request = o.request;
  since = o.since;
  deaf = is_none o.arrived;
  has_octets = o.has_octets;
})

abbrev pub received_octets : Option (List ℕ) → List ℕ
received_octets None = []
received_octets (Some octets) = octets

abbrev pub octets_received : Option Outstanding → List ℕ
octets_received None = []
octets_received (Some o) = received_octets o.arrived

abbrev pub octets_from : List ℕ → Option (List ℕ)
octets_from ns = if list_all (λ n. nat_lt n 256) ns then Some ns else None

-- whether nothing can be received any more, and what arrived
abbrev pub listening : Option (List ℕ) → Option (Bool × List ℕ)
listening None = None
listening (Some octets) = Some (false, octets)

abbrev pub deaf_by : List ℕ → Option (Bool × List ℕ)
deaf_by [] = Some (true, [])
deaf_by (n ∷ ns) = None

abbrev pub received_by : ℕ → List ℕ → Option (Bool × List ℕ)
received_by kind ns =
    if kind == 0 then deaf_by ns else if kind == 1 then listening (octets_from ns) else None

abbrev pub answered_with : List ℕ → Option (Bool × List ℕ)
answered_with [] = None
answered_with (kind ∷ ns) = received_by kind ns

-- The first of these lines say this state, and the rest stands behind them. What arrived is looked
-- at if a request is outstanding. Of a station's three lines the first two are looked at.
pub record IsStateOf (p : Primary) (lines rest : List (List ℕ)) : Type 0 where
  pub received : List ℕ
  pub stations : List (List ℕ)
  pub whole : lines
      ≡ head_numbers p ∷ received ∷ awaited_numbers p.outstanding ∷ stations
  pub arrived : (o : Outstanding) → p.outstanding ≡ Some o → received ≡ received_numbers (Some o)
  pub behind : StandBefore p.stations stations rest
