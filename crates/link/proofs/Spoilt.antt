-- The spoilt exchanges of a line, call by call. The count grows when the latest exchange is closed,
-- if octets came in it and it isn't answered.
use Rattle.std.specs.Prelude.{◌==◌, ◌↔◌}
use Rattle.std.proofs.Common.{◌≡◌, ◌≢◌, ℕ, ◌+◌, ◌&&◌, ◌||◌, not, cond, Bool, true, false, List, []}
use Rattle.std.proofs.Common.{◌∷◌, ◌++◌, length, Option, Some, None, is_none, refl, sym, ap, ◌∙◌}
use Rattle.std.proofs.Common.{arith, if◌then◌else◌}
use Rattle.std.proofs.lemmas.List.Sums.{sum_by_push}
use Rattle.ft12.specs.declared.frame.Front.{Front}
use Rattle.std.specs.Io.Iter.{u64_saturate}
use Rattle.link.specs.Answers.{Answer}
use Rattle.link.specs.Exchanges.{OpenExchange, IsUnanswered, answer_to, view, is_spoilt}
use Rattle.link.specs.Exchanges.{spoilt_count}

-- one more exchange at the end
spoilt_push : (front : List ℕ → Front) (address : ℕ → ℕ) (xs : List OpenExchange) (x : OpenExchange)
    →
    spoilt_count front address (xs ++ x ∷ []) ≡ spoilt_count front address xs + cond
    (is_spoilt front (address x.station) x) 1 0
spoilt_push front address xs x =
    sum_by_push (λ (y : OpenExchange). cond (is_spoilt front (address y.station) y) 1 0) xs x

-- one that isn't closed counts for nothing
pub open_push : (front : List ℕ → Front) (address : ℕ → ℕ) (xs : List OpenExchange)
    (x : OpenExchange)
    → x.closed ≡ false →
    spoilt_count front address (xs ++ x ∷ []) ≡ spoilt_count front address xs
open_push front address xs x waits =
    spoilt_push front address xs x
    ∙ ap (λ (c : Bool). spoilt_count front address xs + cond (c
    && (not (length x.octets == 0)
    && is_none (answer_to (address x.station) (view front x).exchange))) 1 0) waits
    ∙ omega arith

none_answered : (closed has : Bool) → (closed && (has && false)) ≡ false
none_answered true true = refl
none_answered true false = refl
none_answered false has = refl

-- nor does one that is answered
pub answered_push : (front : List ℕ → Front) (address : ℕ
    → ℕ) (xs : List OpenExchange) (x : OpenExchange) (answer : Answer) →
    answer_to (address x.station) (view front x).exchange ≡ Some answer
    → spoilt_count front address (xs ++ x ∷ []) ≡ spoilt_count front address xs
answered_push front address xs x answer is =
    spoilt_push front address xs x
    ∙ ap (λ (m : Option Answer). spoilt_count front address xs + cond (x.closed
    && (not (length x.octets == 0) && is_none m)) 1 0) is
    ∙ ap (λ (b : Bool). spoilt_count front address xs + cond b 1 0)
    (none_answered x.closed (not (length x.octets == 0)))
    ∙ omega arith

missed_count : (has : Bool) (spoilt n : ℕ) → spoilt ≡ u64_saturate n
    → (if has then u64_saturate (spoilt + 1) else spoilt)
    ≡ u64_saturate (n + cond (has && true) 1 0)
missed_count true spoilt n is = ap (λ (m : ℕ). u64_saturate (m + 1)) is ∙ omega arith
missed_count false spoilt n is = is ∙ omega arith

-- One that is closed without an answer counts if octets came.
pub missed_push : (front : List ℕ → Front) (address : ℕ
    → ℕ) (xs : List OpenExchange) (x : OpenExchange) (has : Bool) (spoilt : ℕ) →
    x.closed ≡ true → has ≡ not (length x.octets == 0)
    → answer_to (address x.station) (view front x).exchange ≡ None
    → spoilt ≡ u64_saturate (spoilt_count front address xs) →
    (if has then u64_saturate (spoilt + 1) else spoilt)
    ≡ u64_saturate (spoilt_count front address (xs ++ x ∷ []))
missed_push front address xs x has spoilt closed octets none is =
    missed_count has spoilt (spoilt_count front address xs) is
    ∙ ap (λ (b : Bool). u64_saturate (spoilt_count front address xs + cond (b && true) 1 0)) octets
    ∙ ap (λ (m : Option Answer). u64_saturate (spoilt_count front address xs
    + cond (not (length x.octets == 0)
    && is_none m) 1 0)) (sym none)
    ∙ ap (λ (c : Bool). u64_saturate (spoilt_count front address xs + cond (c
    && (not (length x.octets == 0)
    && is_none (answer_to (address x.station) (view front x).exchange))) 1 0))
    (sym closed)
    ∙ ap (λ (n : ℕ). u64_saturate n) (sym (spoilt_push front address xs x))

some_octets : (x : ℕ) (octets : List ℕ) → not (length (x ∷ octets) == 0) ≡ true
some_octets x octets = grind arith

-- more octets came
pub more_octets : (before octets : List ℕ) (has : Bool) → has ≡ not (length before == 0)
    → (has || not (length octets == 0)) ≡ not (length (before ++ octets) == 0)
more_octets [] octets has is = ap (λ (b : Bool). b || not (length octets == 0)) is
more_octets (x ∷ before) octets has is =
    ap (λ (b : Bool). b || not (length octets == 0)) (is ∙ some_octets x before)
    ∙ sym (some_octets x (before ++ octets))

by_test : (closed : Bool) (octets : List ℕ) (m : Option Answer)
    → (closed && (not (length octets == 0) && is_none m)) ≡ true →
    (octets ≢ []) × ((m ≡ None) × (closed ≡ true))
by_test true [] m is = cc
by_test true (x ∷ octets) None is = ((λ e. cc), (refl, refl))
by_test true (x ∷ octets) (Some answer) is =
    let none : (not (length (x ∷ octets) == 0) && false) ≡ false =
    none_answered true (not (length (x ∷ octets) == 0)) in cc
by_test false octets m is = cc

are_some : (octets : List ℕ) → octets ≢ [] → (not (length octets == 0) && true) ≡ true
are_some [] some = absurd (some refl)
are_some (x ∷ octets) some = ap (λ (b : Bool). b && true) (some_octets x octets)

-- what the test says of an exchange
pub spoilt_means : (front : List ℕ → Front) (address : ℕ) (x : OpenExchange) →
    (is_spoilt front address x ≡ true)
    ↔ ((x.octets ≢ []) × IsUnanswered address (view front x).exchange)
spoilt_means front address x = (there, λ h. back h.0 h.1)
  where
    there : is_spoilt front address x ≡ true → (x.octets ≢ [])
        × IsUnanswered address (view front x).exchange
    there is = by_test x.closed x.octets (answer_to address (view front x).exchange) is

    back : x.octets ≢ [] → IsUnanswered address (view front x).exchange → is_spoilt front address x
        ≡ true
    back some h =
        ap (λ (c : Bool). c
        && (not (length x.octets == 0) && is_none (answer_to address (view front x).exchange))) h.1
        ∙ ap (λ (m : Option Answer). not (length x.octets == 0) && is_none m) h.0
        ∙ are_some x.octets some
