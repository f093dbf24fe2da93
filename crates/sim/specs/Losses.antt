-- What a script says of one request or one call.
use Rattle.std.specs.Prelude.{ℕ, ◌==◌, ◌&&◌, Bool, true, false, if◌then◌else◌, List, [], ◌∷◌}
use Rattle.std.specs.Prelude.{Option, Some, None}
use Rattle.std.specs.List.{list_any}
use Rattle.sim.specs.declared.directive.Class.{Class}
use Rattle.sim.specs.declared.directive.Class.TheVariants.{One, Two}
use Rattle.sim.specs.declared.directive.Directive.{Directive}
use Rattle.sim.specs.declared.directive.Directive.TheVariants.{Turns, Ack, Wall, Report}
use Rattle.sim.specs.declared.directive.Directive.TheVariants.{LoseRequest, LoseAnswer, SpoilAnswer}
use Rattle.sim.specs.declared.directive.Directive.TheVariants.{Cut, Send}
use Rattle.sim.specs.declared.directive.RequestFate.{RequestFate}
use Rattle.sim.specs.declared.directive.RequestFate.TheVariants.{RequestLost, AnswerLost}
use Rattle.sim.specs.declared.directive.RequestFate.TheVariants.{AnswerSpoilt}
use Rattle.sim.specs.declared.directive.RequestFate.TheVariants.{Answered}

-- the first of the lines that says something, by what each says
abbrev pub or_else : {A : Type 0} → Option A → Option A → Option A
or_else (Some x) other = Some x
or_else None other = other

abbrev pub first_said : {A : Type 0} → (Directive → Option A) → List Directive → Option A
first_said say [] = None
first_said say (d ∷ ds) = or_else (say d) (first_said say ds)

abbrev pub turns_said : Directive → Option ℕ
turns_said (Turns n) = Some n
turns_said directive = None

abbrev pub ack_said : Directive → Option ℕ
ack_said (Ack n) = Some n
ack_said directive = None

abbrev pub wall_said : Directive → Option ℕ
wall_said (Wall n) = Some n
wall_said directive = None

abbrev pub spoil_said : (request : ℕ) → Directive → Option ℕ
spoil_said request (SpoilAnswer n place) = if n == request then Some place else None
spoil_said request directive = None

abbrev pub send_said : (call : ℕ) → Directive → Option (List ℕ)
send_said call (Send n octets) = if n == call then Some octets else None
send_said call directive = None

abbrev pub or_number : Option ℕ → ℕ → ℕ
or_number None other = other
or_number (Some n) other = n

-- how many calls of the port there are
abbrev pub turns_of : List Directive → ℕ
turns_of ds = or_number (first_said turns_said ds) 0

-- from how many unacknowledged I frames on the control centre acknowledges: 1 if the script doesn't
-- say
abbrev pub ack_of : List Directive → ℕ
ack_of ds = or_number (first_said ack_said ds) 1

-- what the wall clock shows, in milliseconds since 1970-01-01 UTC: given at the first call
abbrev pub wall_of : List Directive → Option ℕ
wall_of ds = first_said wall_said ds

abbrev pub wall_at : List Directive → (call : ℕ) → Option ℕ
wall_at ds call = if call == 1 then wall_of ds else None

abbrev pub loses_request : (request : ℕ) → Directive → Bool
loses_request request (LoseRequest n) = n == request
loses_request request directive = false

abbrev pub loses_answer : (request : ℕ) → Directive → Bool
loses_answer request (LoseAnswer n) = n == request
loses_answer request directive = false

abbrev pub cuts : (call : ℕ) → Directive → Bool
cuts call (Cut n) = n == call
cuts call directive = false

abbrev pub is_cut_at : List Directive → (call : ℕ) → Bool
is_cut_at ds call = list_any (cuts call) ds

abbrev pub sent_at : List Directive → (call : ℕ) → Option (List ℕ)
sent_at ds call = first_said (send_said call) ds

abbrev pub spoilt_fate : Option ℕ → RequestFate
spoilt_fate None = Answered
spoilt_fate (Some place) = AnswerSpoilt place

-- what becomes of a request, by its number: it isn't received, or else its answer is lost, or else
-- spoilt
abbrev pub fate_of : List Directive → (request : ℕ) → RequestFate
fate_of ds request =
    if list_any (loses_request request) ds then RequestLost
    else if list_any (loses_answer request) ds then AnswerLost
    else spoilt_fate (first_said (spoil_said request) ds)

abbrev pub is_class : Class → Class → Bool
is_class One One = true
is_class Two Two = true
is_class class other = false

-- what a line has the station with this index report
abbrev pub report_said : (station : ℕ) → Class → Directive → List (List ℕ)
report_said station class (Report i other octets) =
    if (i == station) && is_class class other then octets ∷ [] else []
report_said station class directive = []
