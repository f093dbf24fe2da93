-- What functions 14 and 15 say to each request.
use Rattle.std.specs.Prelude.{◌==◌}
use Rattle.std.proofs.Common.{◌≡◌, ℕ, ◌%◌, ◌&&◌, ◌||◌, ◌⊎◌, Bool, true, false, Option, Some, None}
use Rattle.std.proofs.Common.{refl, ap, ◌∙◌, inl, inr, if◌then◌else◌}
use Rattle.std.proofs.lemmas.Bool.{eqb-true}
use Rattle.link.specs.Answers.{Frame, Single, Fixed, Data, Service, Class1, Class2, Command, Asked}
use Rattle.link.specs.Answers.{Reset, Counted, Answer, Unable, Says, comes_from, code_answer}
use Rattle.link.specs.Answers.{answer_of}
use Rattle.link.specs.Outstation.{is_refusal}

both_true : (a b : Bool) → (a && b) ≡ true → (a ≡ true) × (b ≡ true)
both_true true b e = (refl, e)
both_true false b e = cc

either_true : (a b : Bool) → (a || b) ≡ true → (a ≡ true) ⊎ (b ≡ true)
either_true true b e = inl refl
either_true false b e = inr e

is_code : (code : ℕ) → ((code == 14) || (code == 15)) ≡ true → (code ≡ 14) ⊎ (code ≡ 15)
is_code code e = go (either_true (code == 14) (code == 15) e)
  where
    go : ((code == 14) ≡ true) ⊎ ((code == 15) ≡ true) → (code ≡ 14) ⊎ (code ≡ 15)
    go (inl one) = inl (eqb-true code 14 one)
    go (inr other) = inr (eqb-true code 15 other)

-- what a fixed frame says whose function is one of them
refused_fixed : (station control address : ℕ) (request : Asked) (m : Option Answer)
    → code_answer request 14 ≡ m
    → code_answer request 15 ≡ m →
    is_refusal station (Fixed control address) ≡ true
    → answer_of station request (Fixed control address) ≡ m
refused_fixed station control address request m at14 at15 refuses =
    let parts = both_true (comes_from station control address) ((control % 16 == 14)
    || (control % 16 == 15)) refuses in
    ap (λ (b : Bool). if b then code_answer request (control % 16) else None) parts.0
    ∙ go (is_code (control % 16) parts.1)
  where
    go : (control % 16 ≡ 14) ⊎ (control % 16 ≡ 15) → code_answer request (control % 16) ≡ m
    go (inl one) = ap (λ (n : ℕ). code_answer request n) one ∙ at14
    go (inr other) = ap (λ (n : ℕ). code_answer request n) other ∙ at15

pub refused_service : (station : ℕ) (fcb : Bool) (service : Service) (frame : Frame)
    → is_refusal station frame ≡ true
    → Says station (Counted fcb service) Unable frame
refused_service station fcb service Single refuses = cc
refused_service station fcb Class1 (Fixed control address) refuses =
    refused_fixed station control address (Counted fcb Class1) (Some Unable) refl refl refuses
refused_service station fcb Class2 (Fixed control address) refuses =
    refused_fixed station control address (Counted fcb Class2) (Some Unable) refl refl refuses
refused_service station fcb (Command asdu) (Fixed control address) refuses =
    refused_fixed station control address (Counted fcb (Command asdu)) (Some Unable) refl refl
    refuses
refused_service station fcb service (Data control address body) refuses = cc

pub refused_reset : (station : ℕ) (frame : Frame) → is_refusal station frame ≡ true
    → answer_of station Reset frame ≡ None
refused_reset station Single refuses = cc
refused_reset station (Fixed control address) refuses =
    refused_fixed station control address Reset None refl refl refuses
refused_reset station (Data control address body) refuses = cc
