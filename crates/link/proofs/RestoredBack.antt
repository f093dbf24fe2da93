-- The first lines of a state read back.
use Rattle.std.proofs.Common.{◌≡◌, ℕ, nat_lt, Bool, true, List, [], ◌∷◌, Option, Some, None, refl}
use Rattle.std.proofs.Common.{sym, ap, ◌∙◌, arith}
use Rattle.std.specs.Prelude.{◌⊎◌}
use Rattle.std.proofs.Common.{inl, inr}
use Rattle.std.specs.Option.{IsSome}
use Rattle.ft12.specs.Reading.{IsProperBeginning}
use Rattle.link.specs.Answers.{Asked, Status, Reset, Counted}
use Rattle.link.specs.Turns.{StationState, Phase, Starting, Commanding, Polling, Class1Polling}
use Rattle.link.specs.Turns.{Over}
use Rattle.link.specs.Primary.{Primary, Outstanding}
use Rattle.link.specs.Procedure.{LinkSettings}
use Rattle.link.specs.Holding.{outstanding_from, Awaited}
use Rattle.link.specs.declared.master.restoring.TurnLine.{TurnLine}
use Rattle.link.specs.Restored.{phase_numbers, phase_from, asked_numbers, asked_from, head_numbers}
use Rattle.link.specs.Restored.{head_from, awaited_numbers, awaited_from, awaited_of}
use Rattle.link.specs.Restored.{octets_received}
use Rattle.link.specs.Restored.{FitsSavedPhase, FitsSavedAsked, FitsSavedOutstanding, is_deaf}
use Rattle.link.specs.Restored.{answered_with, received_numbers, ReceivedAreOctets}
use Rattle.link.specs.Restored.{ReceivedIsResumable}
use Rattle.link.specs.Restored.{primary_with}
use Rattle.link.proofs.Saved.{bit_back, service_back, all_octets}

phase_back : (phase : Phase) → FitsSavedPhase phase → phase_from (phase_numbers phase) ≡ Some phase
phase_back Starting fits = refl
phase_back Commanding fits = refl
phase_back Polling fits = refl
phase_back Over fits = refl
phase_back (Class1Polling sent) fits = let on : nat_lt sent 256 ≡ true = grind (arith, fits) in
    rw on refl

pub head_back : (p : Primary) → FitsSavedPhase p.phase
    → head_from (head_numbers p)
    ≡ Some (record { turn = p.turn; again = p.again; spoilt = p.spoilt; phase = p.phase })
head_back p fits = rw (bit_back p.again, phase_back p.phase fits) refl

asked_back : (asked : Asked) → FitsSavedAsked asked → asked_from (asked_numbers asked) ≡ Some asked
asked_back Status fits = refl
asked_back Reset fits = refl
asked_back (Counted fcb service) fits = rw (bit_back fcb, service_back service fits) refl

pub awaited_back : (o : Option Outstanding) → FitsSavedOutstanding o → (deaf : Bool)
    → deaf ≡ is_deaf o
    → awaited_from deaf (awaited_numbers o) ≡ Some (awaited_of o)
awaited_back None fits deaf is = refl
awaited_back (Some o) fits deaf is = rw (bit_back o.has_octets, asked_back o.request fits, is) refl

-- what the program keeps of it is what was outstanding
pub outstanding_back : (o : Option Outstanding)
    → outstanding_from (awaited_of o) (Some (octets_received o)) ≡ o
outstanding_back None = refl
outstanding_back (Some o) = by o o.arrived refl
  where
    by : (o : Outstanding) (h : Option (List ℕ)) → o.arrived ≡ h
        → outstanding_from (awaited_of (Some o)) (Some (octets_received (Some o))) ≡ Some o
    by o None is = rw is refl
    by o (Some octets) is = rw is refl

pub received_back : (o : Option Outstanding) → ReceivedAreOctets o
    → answered_with (received_numbers o) ≡ Some (is_deaf o, octets_received o)
received_back None are = refl
received_back (Some o) are = by o o.arrived refl are
  where
    by : (o : Outstanding) (h : Option (List ℕ)) → o.arrived ≡ h → ReceivedAreOctets (Some o)
        → answered_with (received_numbers (Some o))
        ≡ Some (is_deaf (Some o), octets_received (Some o))
    by o None is are = rw is refl
    by o (Some octets) is are = let known = all_octets octets (rw is at are) in rw (is, known) refl

pub next_line : (x y : List ℕ) (xs ys all : List (List ℕ)) → all ≡ x ∷ xs → all ≡ y ∷ ys
    → (y ≡ x) × (ys ≡ xs)
next_line x y xs ys all e f = let g : y ∷ ys ≡ x ∷ xs = sym f ∙ e in (cc, cc)

-- what was found of the answer so far
deaf_in : Option (Bool × List ℕ) → Bool
deaf_in None = true
deaf_in (Some x) = x.0

octets_in : Option (Bool × List ℕ) → List ℕ
octets_in None = []
octets_in (Some x) = x.1

pub found_is : (b : Bool) (v : List ℕ) (o : Option Outstanding) → ReceivedAreOctets o
    → Some (b, v) ≡ answered_with (received_numbers o) → (b ≡ is_deaf o) × (v ≡ octets_received o)
unfolding deaf_in octets_in
found_is b v o are e =
    let g : Some (b, v) ≡ Some (is_deaf o, octets_received o) = e ∙ received_back o are in
    (ap deaf_in g, ap octets_in g)

-- the primary that is made of what was read is the one that was written
pub restored_same : (p : Primary) (settings : LinkSettings) (h : TurnLine) (a : Option Awaited)
    (x : List ℕ)
    (ss : List StationState) → p.settings ≡ settings
    → h ≡ record { turn = p.turn; again = p.again; spoilt = p.spoilt; phase = p.phase }
    → a ≡ awaited_of p.outstanding
    → x ≡ octets_received p.outstanding → ss ≡ p.stations
    → primary_with settings h (outstanding_from a (Some x)) ss ≡ p
restored_same p settings h a x ss set eh ea ex es =
    let q : TurnLine = record {
      turn = p.turn;
      again = p.again;
      spoilt = p.spoilt;
      phase =
          p.phase;
    } in
    let o : outstanding_from a (Some x) ≡ p.outstanding =
    ap (λ (a : Option Awaited). outstanding_from a (Some x)) ea
    ∙ ap (λ (x : List ℕ). outstanding_from (awaited_of p.outstanding) (Some x)) ex
    ∙ outstanding_back p.outstanding in
    ap (λ (s : LinkSettings). primary_with s h (outstanding_from a (Some x)) ss) (sym set)
    ∙ ap (λ (h : TurnLine). primary_with p.settings h (outstanding_from a (Some x)) ss) eh
    ∙ ap (λ (o : Option Outstanding). primary_with p.settings q o ss) o
    ∙ ap (λ (ss : List StationState). primary_with p.settings q p.outstanding ss) es

-- what arrived of an answer is the beginning of a frame, or nothing
pub received_begins : (p : Primary) (o : Option Outstanding) → ReceivedIsResumable p o
    → IsProperBeginning p.settings.size (octets_received o) ⊎ (octets_received o ≡ [])
received_begins p None is = inr refl
received_begins p (Some o) is = by o o.arrived refl is
  where
    by : (o : Outstanding) (h : Option (List ℕ)) → o.arrived ≡ h → ReceivedIsResumable p (Some o)
        → IsProperBeginning p.settings.size (octets_received (Some o))
        ⊎ (octets_received (Some o) ≡ [])
    by o None e is = inr (rw e refl)
    by o (Some octets) e is = rw e (inl (rw e at is))

pub some_awaited_same : (t s : Option Awaited) → Some t ≡ Some s → t ≡ s
some_awaited_same t s e = cc

pub some_head_same : (t s : TurnLine) → Some t ≡ Some s → t ≡ s
some_head_same t s e = cc

pub none_some : (r : Option Primary) → r ≡ None → IsSome r → ⊥
none_some r e f = cc

none_is_none : (x : Bool × List ℕ) (r : Option (Bool × List ℕ)) → r ≡ None → r ≡ Some x → ⊥
none_is_none x r e f = cc

pub not_none : (o : Option Outstanding) → ReceivedAreOctets o
    → None ≡ answered_with (received_numbers o) → ⊥
not_none o are e = none_is_none (is_deaf o, octets_received o) (answered_with (received_numbers o))
    (sym e)
    (received_back o are)
