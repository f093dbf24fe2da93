-- An outstation of unbalanced transmission, as a primary station may count on it (IEC 60870-5-2,
-- the procedures of a secondary station): a machine with free choices. What it reports, and whether
-- it can serve, is its own.
use Rattle.std.specs.Prelude.{◌≡◌, ◌≢◌, ℕ, ◌&&◌, ◌⊎◌, Bool, true, false, List, [], ◌∷◌, ◌++◌}
use Rattle.std.specs.Prelude.{Option, Some, None}
use Rattle.link.specs.Answers.{Frame, Single, Fixed, Data, Service, Class1, Class2, Command, Asked}
use Rattle.link.specs.Answers.{Status, Reset, Counted, Answer, Ready, Confirmed, Report, Unable}
use Rattle.link.specs.Answers.{Says, comes_from, is_unable}
use Rattle.link.specs.Control.{function_code}

-- what a service does at the outstation: a report is given, a command is accepted
pub data Effect : Type 0 where
  Given : (asdu : List ℕ) → Effect
  Accepted : (asdu : List ℕ) → Effect

-- what the outstation has done if it answers the service so
abbrev pub effects_of : Service → Answer → List Effect
effects_of Class1 (Report asdu) = Given asdu ∷ []
effects_of Class2 (Report asdu) = Given asdu ∷ []
effects_of (Command asdu) Confirmed = Accepted asdu ∷ []
effects_of service answer = []

-- the frame count bit that it has, if it was ever reset, and its last answer to a counted request
-- since
pub record Outstation : Type 0 where
  pub bit : Option Bool
  pub last : Option Frame

-- before the first reset
abbrev pub unreset : Outstation
unreset = record { bit = None; last = None }

abbrev pub reset_link : Outstation
reset_link = record { bit = Some false; last = None }

-- what it does at one request: its answer, if any, and what is new
pub record Turn : Type 0 where
  pub answer : Option Frame
  pub done : List Effect

abbrev pub silent : Turn
silent = record { answer = None; done = [] }

abbrev pub with_answer : Frame → Turn
with_answer frame = record { answer = Some frame; done = [] }

-- this station's frame that the service isn't functioning, or isn't implemented
abbrev pub is_refusal : (station : ℕ) → Frame → Bool
is_refusal station Single = false
is_refusal station (Fixed control address) =
    comes_from station control address && is_unable (function_code control)
is_refusal station (Data control address body) = false

-- An outstation with this bit receives a counted request.
abbrev pub Serves : (station : ℕ) → Option Bool → Outstation → (fcb : Bool) → Service → Turn →
    Outstation → Type 0
-- before the first reset there is no answer
Serves station None old fcb service turn new = (turn ≡ silent) × (new ≡ old)
-- with the old bit it gives its last answer again, if it has one. With a new bit it takes the bit,
-- serves, and keeps its answer
Serves station (Some bit) old fcb service turn new =
    (fcb ≡ bit) × (turn ≡ record { answer = old.last; done = [] }) × (new ≡ old)
    ⊎ (fcb ≢ bit) × ((frame : Frame) × (answer : Answer)
    × Says station (Counted fcb service) answer frame × (answer ≢ Unable)
    × (turn ≡ record { answer = Some frame; done = effects_of service answer })
    × (new ≡ record { bit = Some fcb; last = Some frame }))

-- The outstation receives the request, and is able to serve it.
abbrev pub Receives : (station : ℕ) → Outstation → Asked → Turn → Outstation → Type 0
Receives station old Status turn new =
    (frame : Frame) × Says station Status Ready frame × (turn ≡ with_answer frame) × (new ≡ old)
Receives station old Reset turn new =
    (frame : Frame) × Says station Reset Confirmed frame × (turn ≡ with_answer frame)
    × (new ≡ reset_link)
Receives station old (Counted fcb service) turn new = Serves station old.bit old fcb service turn
    new

-- One request to the outstation.
pub data OutstationStep (station : ℕ) (old : Outstation) (request : Asked) (turn : Turn)
    (new : Outstation) : Type 0 where
  -- it isn't received
  unreceived : turn ≡ silent → new ≡ old → OutstationStep station old request turn new
  -- it is received, and answered that the service isn't functioning or not implemented
  unable : (frame : Frame) → is_refusal station frame ≡ true → turn ≡ with_answer frame →
      new ≡ old → OutstationStep station old request turn new
  arrived : Receives station old request turn new → OutstationStep station old request turn new

-- These requests in turn, from one state to another.
abbrev pub OutstationRun : (station : ℕ) → Outstation → List Asked → List Turn → Outstation → Type 0
OutstationRun station old [] [] new = new ≡ old
OutstationRun station old (request ∷ requests) (turn ∷ turns) new =
    (mid : Outstation) × OutstationStep station old request turn mid
    × OutstationRun station mid requests turns new
OutstationRun station old [] (turn ∷ turns) new = ⊥
OutstationRun station old (request ∷ requests) [] new = ⊥

-- all that it did
abbrev pub all_done : List Turn → List Effect
all_done [] = []
all_done (turn ∷ turns) = turn.done ++ all_done turns
