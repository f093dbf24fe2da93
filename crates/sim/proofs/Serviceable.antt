-- A station never answers that it can't serve (functions 14 and 15).
use Rattle.std.proofs.Common.{◌≡◌, ◌≢◌, ℕ, ◌%◌, ◌||◌, ◌&&◌, Bool, true, false, List, [], ◌∷◌}
use Rattle.std.proofs.Common.{length, Option, Some, None, IfSome, refl, sym, ap, subst, arith}
use Rattle.std.proofs.Common.{if◌then◌else◌}
use Rattle.std.specs.Prelude.{◌==◌, option_and_then}
use Rattle.std.specs.List.{AllByRecursion}
use Rattle.ft12.specs.declared.frame.Frame.{Frame}
use Rattle.ft12.specs.declared.frame.Frame.TheVariants.{Single, Fixed, Data}
use Rattle.link.specs.declared.service.Service.{Service}
use Rattle.link.specs.declared.service.Service.TheVariants.{Class1, Class2, Command}
use Rattle.link.specs.declared.service.Asked.{Asked}
use Rattle.link.specs.declared.service.Asked.TheVariants.{Status, Reset, Counted}
use Rattle.link.specs.declared.answer.Answer.{Answer}
use Rattle.link.specs.declared.answer.Answer.TheVariants.{Ready, Confirmed, Busy, NoData, Unable}
use Rattle.link.specs.Answers.{unable_answer, code_answer, data_answer, comes_from, answer_of}
use Rattle.link.specs.Delivery.{AreTrueFronts, IsTrueFront}
use Rattle.link.specs.Exchanges.{Exchange, answer_to}
use Rattle.link.specs.Outstation.{Turn}
use Rattle.link.specs.Secondary.{Secondary, Served, control_of, short_of, unchanged, served_class1}
use Rattle.link.specs.Secondary.{served_class2, served_new, is_same, served_counted, served}
use Rattle.sim.specs.Outstations.{TakesTurn, TakesTurns}

-- functions 14 and 15 in a frame of fixed length
abbrev pub is_refusing : Frame → Bool
is_refusing Single = false
is_refusing (Fixed control address) = (control % 16 == 14) || (control % 16 == 15)
is_refusing (Data control address body) = false

abbrev pub IsWilling : Option Frame → Type 0
IsWilling answer = IfSome answer (λ frame. is_refusing frame ≡ false)

-- What a frame that doesn't refuse says

if_not : (b : Bool) (x y : Option Answer) → (x ≡ Some Unable → ⊥) → (y ≡ Some Unable → ⊥)
    → (if b then x else y) ≡ Some Unable → ⊥
if_not true x y h k e = h e
if_not false x y h k e = k e

able_code : (code : ℕ) → ((code == 14) || (code == 15)) ≡ false → unable_answer code ≡ Some Unable
    → ⊥
able_code code able e =
    let none : unable_answer code ≡ None = ap (λ (b : Bool). if b then Some Unable
    else None) able in
    cc

able_fixed : (r : Asked) (code : ℕ) → ((code == 14) || (code == 15)) ≡ false → code_answer r code
    ≡ Some Unable → ⊥
able_fixed Status code able = if_not (code == 11) (Some Ready) (unable_answer code) (λ e. cc)
    (able_code code able)
able_fixed Reset code able = if_not (code == 0) (Some Confirmed) None (λ e. cc) (λ e. cc)
able_fixed (Counted fcb Class1) code able = if_not (code == 9) (Some NoData) (unable_answer code)
    (λ e. cc)
    (able_code code able)
able_fixed (Counted fcb Class2) code able = if_not (code == 9) (Some NoData) (unable_answer code)
    (λ e. cc)
    (able_code code able)
able_fixed (Counted fcb (Command asdu)) code able =
    if_not (code == 0) (Some Confirmed) (if code == 1 then Some Busy else unable_answer code)
    (λ e. cc)
    (if_not (code == 1) (Some Busy) (unable_answer code) (λ e. cc) (able_code code able))

able_data : (r : Asked) (asdu : List ℕ) → data_answer r asdu ≡ Some Unable → ⊥
able_data Status asdu e = cc
able_data Reset asdu e = cc
able_data (Counted fcb Class1) asdu e = cc
able_data (Counted fcb Class2) asdu e = cc
able_data (Counted fcb (Command other)) asdu e = cc

able : (a : ℕ) (r : Asked) (frame : Frame) → is_refusing frame ≡ false → answer_of a r frame
    ≡ Some Unable → ⊥
able a Status Single h e = cc
able a Reset Single h e = cc
able a (Counted fcb Class1) Single h e = cc
able a (Counted fcb Class2) Single h e = cc
able a (Counted fcb (Command asdu)) Single h e = cc
able a r (Fixed control address) h e =
    if_not (comes_from a control address) (code_answer r (control % 16)) None
    (able_fixed r (control % 16) h) (λ f. cc) e
able a r (Data control address body) h e =
    if_not (comes_from a control address && (control % 16 == 8))
    (data_answer r body.items) None (able_data r body.items) (λ f. cc) e

able_front : (a : ℕ) (r : Asked) (front : Option Frame) (turn : Turn) → IsWilling turn.answer
    → IsTrueFront front turn
    → option_and_then (answer_of a r) front ≡ Some Unable → ⊥
able_front a r None turn willing h e = cc
able_front a r (Some frame) turn willing h e = able a r frame (subst IsWilling h willing) e

pub never_unable : (a : ℕ) (xs : List Exchange) (turns : List Turn) → length turns ≡ length xs
    → AllByRecursion (λ (t : Turn). IsWilling t.answer) turns → AreTrueFronts xs turns →
    AllByRecursion (λ (x : Exchange). answer_to a x ≢ Some Unable) xs
never_unable a [] turns long all h = tt
never_unable a (x ∷ xs) [] long all h = absurd (omega arith)
never_unable a (x ∷ xs) (t ∷ turns) long all h = (
  (λ e. able_front a x.request x.front t all.0 h.0 e),
  never_unable a xs turns (omega arith) all.1 h.1,
)

-- What a station answers

-- the answer is given, and perhaps kept, and neither refuses
record StaysWilling (by : Served) : Type 0 where
  answer : IsWilling by.turn.answer
  last : IsWilling by.state.last

willing_short9 : (a : ℕ) (class1 : List (List ℕ)) → is_refusing (short_of 9 a class1) ≡ false
willing_short9 a [] = refl
willing_short9 a (x ∷ xs) = refl

willing_short0 : (a : ℕ) (class1 : List (List ℕ)) → is_refusing (short_of 0 a class1) ≡ false
willing_short0 a [] = refl
willing_short0 a (x ∷ xs) = refl

willing_busy : (a : ℕ) (class1 : List (List ℕ)) → is_refusing (Fixed (control_of 1 class1) a)
    ≡ false
willing_busy a [] = refl
willing_busy a (x ∷ xs) = refl

willing_status : (a : ℕ) (class1 : List (List ℕ)) → is_refusing (Fixed (control_of 11 class1) a)
    ≡ false
willing_status a [] = refl
willing_status a (x ∷ xs) = refl

willing_class1 : (s : Secondary) (fcb : Bool) (reports : List (List ℕ))
    → StaysWilling (served_class1 s fcb reports)
willing_class1 s fcb [] = record {
  answer = willing_short9 s.address s.class1;
  last =
      willing_short9 s.address s.class1;
}
willing_class1 s fcb (r ∷ rs) = record { answer = refl; last = refl }

willing_class2 : (s : Secondary) (fcb : Bool) (reports : List (List ℕ))
    → StaysWilling (served_class2 s fcb reports)
willing_class2 s fcb [] = record {
  answer = willing_short9 s.address s.class1;
  last =
      willing_short9 s.address s.class1;
}
willing_class2 s fcb (r ∷ rs) = record { answer = refl; last = refl }

willing_new : (granted : Bool) (s : Secondary) (fcb : Bool) (service : Service)
    → StaysWilling (served_new granted s fcb service)
willing_new granted s fcb Class1 = willing_class1 s fcb s.class1
willing_new granted s fcb Class2 = willing_class2 s fcb s.class2
willing_new true s fcb (Command asdu) = record {
  answer = willing_short0 s.address s.class1;
  last =
      willing_short0 s.address s.class1;
}
willing_new false s fcb (Command asdu) = record {
  answer = willing_busy s.address s.class1;
  last =
      willing_busy s.address s.class1;
}

willing_counted : (granted : Bool) (s : Secondary) (bit : Option Bool) (fcb : Bool)
    (service : Service)
    → IsWilling s.last → StaysWilling (served_counted granted s bit fcb service)
willing_counted granted s None fcb service h = record { answer = tt; last = h }
willing_counted granted s (Some bit) fcb service h = go (is_same fcb bit)
  where
    go : (b : Bool) → StaysWilling (if b then unchanged s s.last
        else served_new granted s fcb service)
    go true = record { answer = h; last = h }
    go false = willing_new granted s fcb service

willing_served : (granted : Bool) (s : Secondary) (r : Asked) → IsWilling s.last
    → StaysWilling (served granted s r)
willing_served granted s Status h = record { answer = willing_status s.address s.class1; last = h }
willing_served granted s Reset h = record { answer = willing_short0 s.address s.class1; last = tt }
willing_served granted s (Counted fcb service) h = willing_counted granted s s.bit fcb service h

willing_turn : (arrived : Bool) (s t : Secondary) (r : Asked) (turn : Turn) → IsWilling s.last
    → TakesTurn arrived s r turn t → IsWilling turn.answer × IsWilling t.last
willing_turn false s t r turn h k = (
  subst (λ (v : Turn). IsWilling v.answer) (sym k.0) tt,
  subst (λ (u : Secondary). IsWilling u.last) (sym k.1) h,
)
willing_turn true s t r turn h k =
    let stays = willing_served k.0 s r h in (
      subst (λ (v : Turn). IsWilling v.answer) (sym k.1) stays.answer,
      subst (λ (u : Secondary). IsWilling u.last) (sym k.2) stays.last,
    )

pub willing_turns : (s t : Secondary) (rs : List (Bool × Asked)) (turns : List Turn)
    → IsWilling s.last
    → TakesTurns s rs turns t → AllByRecursion (λ (v : Turn). IsWilling v.answer) turns
willing_turns s t [] [] h k = tt
willing_turns s t [] (turn ∷ turns) h k = absurd k
willing_turns s t (r ∷ rs) [] h k = absurd k
willing_turns s t (r ∷ rs) (turn ∷ turns) h k =
    let one = willing_turn r.0 s k.0 r.1 turn h k.1 in
    (one.0, willing_turns k.0 t rs turns one.1 k.2)
