-- A secondary station's turn is one of the machine's.
use Rattle.std.specs.Prelude.{◌==◌}
use Rattle.std.proofs.Common.{◌≡◌, ◌≢◌, ℕ, ◌%◌, ◌&&◌, Bool, true, false, List, [], ◌∷◌, Option}
use Rattle.std.proofs.Common.{Some, None, refl, ap, ◌∙◌, inl, inr, if◌then◌else◌}
use Rattle.std.proofs.lemmas.Bool.{eq-eqb}
use Rattle.link.specs.Answers.{Frame, Fixed, Service, Class1, Class2, Command, Asked, Status, Reset}
use Rattle.link.specs.Answers.{Counted, Answer, Ready, Confirmed, Busy, Report, NoData, Unable}
use Rattle.link.specs.Answers.{Says, code_answer, data_answer}
use Rattle.link.specs.Control.{is_secondary}
use Rattle.link.specs.Outstation.{effects_of, Receives, Serves, OutstationStep, arrived}
use Rattle.link.specs.Secondary.{Secondary, outstation_of, control_of, short_of, data_frame, Served}
use Rattle.link.specs.Secondary.{unchanged, served_class1, served_class2, served_command}
use Rattle.link.specs.Secondary.{served_new, is_same, served_counted, served}

fixed_says : (station control : ℕ) (request : Asked) (answer : Answer) → is_secondary control ≡ true
    → code_answer request (control % 16) ≡ Some answer →
    Says station request answer (Fixed control station)
fixed_says station control request answer secondary code =
    ap (λ (b : Bool). if (b && (station == station)) then code_answer request (control % 16)
    else None) secondary
    ∙ ap (λ (b : Bool). if b then code_answer request (control % 16) else None)
    (eq-eqb station station refl)
    ∙ code

pub data_says : (station : ℕ) (request : Asked) (reports : List (List ℕ)) (asdu : List ℕ)
    (answer : Answer)
    → data_answer request asdu ≡ Some answer →
    Says station request answer (data_frame (control_of 8 reports) station asdu)
data_says station request [] asdu answer e = ap (λ (b : Bool). if (true && b)
    && true then data_answer request asdu else None) (eq-eqb station station refl) ∙ e
data_says station request (r ∷ rs) asdu answer e = ap (λ (b : Bool). if (true && b)
    && true then data_answer request asdu else None) (eq-eqb station station refl) ∙ e

status_says : (station : ℕ) (reports : List (List ℕ)) → Says station Status Ready
    (Fixed (control_of 11 reports) station)
status_says station [] = fixed_says station 11 Status Ready refl refl
status_says station (r ∷ rs) = fixed_says station 43 Status Ready refl refl

reset_says : (station : ℕ) (reports : List (List ℕ))
    → Says station Reset Confirmed (short_of 0 station reports)
reset_says station [] = refl
reset_says station (r ∷ rs) = fixed_says station 32 Reset Confirmed refl refl

pub command_says : (station : ℕ) (fcb : Bool) (asdu : List ℕ) (reports : List (List ℕ))
    → Says station (Counted fcb (Command asdu)) Confirmed (short_of 0 station reports)
command_says station fcb asdu [] = refl
command_says station fcb asdu (r ∷ rs) = fixed_says station 32 (Counted fcb (Command asdu))
    Confirmed refl refl

pub busy_says : (station : ℕ) (fcb : Bool) (asdu : List ℕ) (reports : List (List ℕ))
    → Says station (Counted fcb (Command asdu)) Busy (Fixed (control_of 1 reports) station)
busy_says station fcb asdu [] = fixed_says station 1 (Counted fcb (Command asdu)) Busy refl refl
busy_says station fcb asdu (r ∷ rs) = fixed_says station 33 (Counted fcb (Command asdu)) Busy refl
    refl

pub none1_says : (station : ℕ) (fcb : Bool) (reports : List (List ℕ))
    → Says station (Counted fcb Class1) NoData (short_of 9 station reports)
none1_says station fcb [] = refl
none1_says station fcb (r ∷ rs) = fixed_says station 41 (Counted fcb Class1) NoData refl refl

pub none2_says : (station : ℕ) (fcb : Bool) (reports : List (List ℕ))
    → Says station (Counted fcb Class2) NoData (short_of 9 station reports)
none2_says station fcb [] = refl
none2_says station fcb (r ∷ rs) = fixed_says station 41 (Counted fcb Class2) NoData refl refl

-- what a service with a new bit makes
abbrev pub ServesNew : Secondary → (fcb : Bool) → Service → Served → Type 0
ServesNew s fcb service served_so =
    (frame : Frame) × (answer : Answer) × Says s.address (Counted fcb service) answer frame
    × (answer ≢ Unable)
    × (served_so.turn ≡ record { answer = Some frame; done = effects_of service answer })
    × (outstation_of served_so.state ≡ record { bit = Some fcb; last = Some frame })

serves_new : (granted : Bool) (s : Secondary) (fcb : Bool) (service : Service)
    → ServesNew s fcb service (served_new granted s fcb service)
serves_new granted s fcb Class1 = go s.class1
  where
    go : (reports : List (List ℕ)) → ServesNew s fcb Class1 (served_class1 s fcb reports)
    go [] = (
      short_of 9 s.address s.class1,
      NoData,
      none1_says s.address fcb s.class1,
      (λ e. cc),
      refl,
      refl,
    )
    go (r ∷ rs) = (
      data_frame (control_of 8 rs) s.address r,
      Report r,
      data_says s.address (Counted fcb Class1) rs r (Report r) refl,
      (λ e. cc),
      refl,
      refl,
    )
serves_new granted s fcb Class2 = go s.class2
  where
    go : (reports : List (List ℕ)) → ServesNew s fcb Class2 (served_class2 s fcb reports)
    go [] = (
      short_of 9 s.address s.class1,
      NoData,
      none2_says s.address fcb s.class1,
      (λ e. cc),
      refl,
      refl,
    )
    go (r ∷ rs) = (
      data_frame (control_of 8 s.class1) s.address r,
      Report r,
      data_says s.address (Counted fcb Class2) s.class1 r (Report r) refl,
      (λ e. cc),
      refl,
      refl,
    )
serves_new true s fcb (Command asdu) = (
  short_of 0 s.address s.class1,
  Confirmed,
  command_says s.address fcb asdu s.class1,
  (λ e. cc),
  refl,
  refl,
)
serves_new false s fcb (Command asdu) = (
  Fixed (control_of 1 s.class1) s.address,
  Busy,
  busy_says s.address fcb asdu s.class1,
  (λ e. cc),
  refl,
  refl,
)

same_is : (a b : Bool) → is_same a b ≡ true → a ≡ b
same_is true true e = refl
same_is true false e = cc
same_is false true e = cc
same_is false false e = refl

other_is : (a b : Bool) → is_same a b ≡ false → a ≢ b
other_is true true e = cc
other_is true false e = λ q. cc
other_is false true e = λ q. cc
other_is false false e = cc

serves : (granted : Bool) (s : Secondary) (bit : Option Bool) (fcb : Bool) (service : Service) →
    Serves s.address bit (outstation_of s) fcb service
    (served_counted granted s bit fcb service).turn
    (outstation_of (served_counted granted s bit fcb service).state)
serves granted s None fcb service = (refl, refl)
serves granted s (Some bit) fcb service = go (is_same fcb bit) refl
  where
    go : (b : Bool) → is_same fcb bit ≡ b →
        Serves s.address (Some bit) (outstation_of s) fcb service
        (if b then unchanged s s.last else served_new granted s fcb service).turn
        (outstation_of (if b then unchanged s s.last else served_new granted s fcb service).state)
    go true e = inl (same_is fcb bit e, refl, refl)
    go false e = inr (other_is fcb bit e, serves_new granted s fcb service)

pub served_so : (granted : Bool) (s : Secondary) (request : Asked) →
    Receives s.address (outstation_of s) request (served granted s request).turn
    (outstation_of (served granted s request).state)
served_so granted s Status =
    (Fixed (control_of 11 s.class1) s.address, status_says s.address s.class1, refl, refl)
served_so granted s Reset =
    (short_of 0 s.address s.class1, reset_says s.address s.class1, refl, refl)
served_so granted s (Counted fcb service) = serves granted s s.bit fcb service

pub served_step : (granted : Bool) (s : Secondary) (request : Asked) →
    OutstationStep s.address (outstation_of s) request (served granted s request).turn
    (outstation_of (served granted s request).state)
served_step granted s request = arrived (served_so granted s request)

pub kept_address : (granted : Bool) (s : Secondary) (request : Asked)
    → (served granted s request).state.address ≡ s.address
kept_address granted s Status = refl
kept_address granted s Reset = refl
kept_address granted s (Counted fcb service) = counted s.bit
  where
    class1 : (reports : List (List ℕ)) → (served_class1 s fcb reports).state.address ≡ s.address
    class1 [] = refl
    class1 (r ∷ rs) = refl

    class2 : (reports : List (List ℕ)) → (served_class2 s fcb reports).state.address ≡ s.address
    class2 [] = refl
    class2 (r ∷ rs) = refl

    command : (g : Bool) (asdu : List ℕ) → (served_command g s fcb asdu).state.address ≡ s.address
    command true asdu = refl
    command false asdu = refl

    new : (v : Service) → (served_new granted s fcb v).state.address ≡ s.address
    new Class1 = class1 s.class1
    new Class2 = class2 s.class2
    new (Command asdu) = command granted asdu

    same : (b : Bool)
        → (if b then unchanged s s.last else served_new granted s fcb service).state.address
        ≡ s.address
    same true = refl
    same false = new service

    counted : (bit : Option Bool) → (served_counted granted s bit fcb service).state.address
        ≡ s.address
    counted None = refl
    counted (Some bit) = same (is_same fcb bit)

pub kept_size : (granted : Bool) (s : Secondary) (request : Asked)
    → (served granted s request).state.size ≡ s.size
kept_size granted s Status = refl
kept_size granted s Reset = refl
kept_size granted s (Counted fcb service) = counted s.bit
  where
    class1 : (reports : List (List ℕ)) → (served_class1 s fcb reports).state.size ≡ s.size
    class1 [] = refl
    class1 (r ∷ rs) = refl

    class2 : (reports : List (List ℕ)) → (served_class2 s fcb reports).state.size ≡ s.size
    class2 [] = refl
    class2 (r ∷ rs) = refl

    command : (g : Bool) (asdu : List ℕ) → (served_command g s fcb asdu).state.size ≡ s.size
    command true asdu = refl
    command false asdu = refl

    new : (v : Service) → (served_new granted s fcb v).state.size ≡ s.size
    new Class1 = class1 s.class1
    new Class2 = class2 s.class2
    new (Command asdu) = command granted asdu

    same : (b : Bool)
        → (if b then unchanged s s.last else served_new granted s fcb service).state.size ≡ s.size
    same true = refl
    same false = new service

    counted : (bit : Option Bool) → (served_counted granted s bit fcb service).state.size ≡ s.size
    counted None = refl
    counted (Some bit) = same (is_same fcb bit)
