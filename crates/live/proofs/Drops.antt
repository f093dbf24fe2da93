-- What waits at a stream is dropped.
use Rattle.std.proofs.Common.{◌≡◌, ℕ, ◌+◌, ◌==◌, ◌≤◌, true, false, not, Bool, List, ◌∷◌, length}
use Rattle.std.proofs.Common.{Result, Ok, Err, refl, sym, ap, subst, ◌∙◌, arith}
use Rattle.std.specs.Prelude.{All}
use Rattle.std.specs.Result.{is_ok, is_err}
use Rattle.std.proofs.lemmas.List.Elements.{All-cons}
use Rattle.live.specs.Streams.{ReadAnswer, Calls, Received, Waits, called, taken_of, DropsOnce}
use Rattle.live.specs.Streams.{brings}
use Rattle.live.specs.Streams.{brought, looked, Drains, DropsWaiting, Refused, Drained}
use Rattle.live.specs.Streams.{ReceivesOnce}

pub refused : (old new : Calls) (count : ℕ) (is_set : Bool) → count ≡ 0 → is_set ≡ false
    → new ≡ called old (Waits false is_set)
    → DropsWaiting old count new
refused old new count is_set none unset done =
    let P : Bool → Type 0 = λ s. new ≡ called old (Waits false s) in
    Refused none (subst P unset done)

pub drained : (old begun mid new : Calls) (count : ℕ) (is_set again : Bool) → is_set ≡ true
    → begun ≡ called old (Waits false is_set) → Drains begun count mid
    → new ≡ called mid (Waits true again)
    → DropsWaiting old count new
drained old begun mid new count is_set again set began drains done =
    let P : Bool → Type 0 = λ s. begun ≡ called old (Waits false s) in
    let Q : Calls → Type 0 = λ c. Drains c count mid in
    Drained mid again (subst Q (subst P set began) drains) done

-- of a stream that has calls before, these
pub dropped_from : (seen old new : Calls) (count : ℕ) → seen ≡ old → DropsWaiting seen count new
    → DropsWaiting old count new
dropped_from seen old new count same drops =
    let P : Calls → Type 0 = λ c. DropsWaiting c count new in subst P same drops

-- what came is dropped
pub drops_once : (old new : Calls) (octets : List ℕ) (n : ℕ) → ReceivesOnce old octets n new
    → DropsOnce old n new
drops_once old new octets n r = record {
  answer = record { octets = octets; count = r.answer };
  asked = r.asked;
  means = r.means;
}

-- octets came, so the look brought some
is_some : (n : ℕ) (b : Bool) → (n == 0) ≡ b → (n ≡ 0 → ⊥) → not b ≡ true
is_some n true is some = absurd (some (grind (arith, is)))
is_some n false is some = refl

some_brings : (answer : ReadAnswer) (n : ℕ) → n ≡ taken_of answer.count → (n ≡ 0 → ⊥)
    → brings answer ≡ true
some_brings answer n means some =
    ap (λ k. not (k == 0)) (sym means) ∙ is_some n (n == 0) refl some

none_brings : (answer : ReadAnswer) (n : ℕ) → n ≡ taken_of answer.count → n ≡ 0
    → brings answer ≡ true → ⊥
none_brings answer n means none some =
    let wrong : false ≡ true = ap (λ k. not (k == 0)) (sym none ∙ means) ∙ some in absurd (cc)

-- one look more
pub looks_more : (old mid new : Calls) (looks : List ReadAnswer) (n : ℕ)
    → mid ≡ looked looks old
    → All (λ a. brings a ≡ true) looks → (d : DropsOnce mid n new) → (n ≡ 0 → ⊥)
    → (new ≡ looked (d.answer ∷ looks) old) × All (λ a. brings a ≡ true) (d.answer ∷ looks)
looks_more old mid new looks n same all d some = (
  d.asked ∙ ap (λ c. called c (Received d.answer.octets d.answer.count)) same,
  All-cons (λ a. brings a ≡ true) d.answer looks (some_brings d.answer n d.means some) all,
)

-- and how many octets it brought
pub brought_more : (looks : List ReadAnswer) (count n : ℕ) (mid new : Calls)
    → count ≡ brought looks
    → (d : DropsOnce mid n new) → count + n ≡ brought (d.answer ∷ looks)
brought_more looks count n mid new so_far d = ap (λ k. count + k) d.means
    ∙ ap (λ k. k + taken_of d.answer.count) so_far

pub drains_by : (old mid new : Calls) (looks : List ReadAnswer) (count n : ℕ)
    → mid ≡ looked looks old
    → All (λ a. brings a ≡ true) looks → length looks ≤ 63 → count ≡ brought looks
    → (d : DropsOnce mid n new)
    → (brings d.answer ≡ true → length looks ≡ 63) → Drains old (count + n) new
drains_by old mid new looks count n same all most so_far d last = record {
  looks = d.answer ∷ looks;
  drained = (all, most, last);
  counted = brought_more looks count n mid new so_far d;
  asked = d.asked ∙ ap (λ c. called c (Received d.answer.octets d.answer.count)) same;
}

pub drains_bare : (old mid new : Calls) (looks : List ReadAnswer) (count n : ℕ)
    → mid ≡ looked looks old
    → All (λ a. brings a ≡ true) looks → length looks ≤ 63 → count ≡ brought looks
    → DropsOnce mid n new
    → n ≡ 0 → Drains old count new
drains_bare old mid new looks count n same all most so_far d none =
    let nothing : count + n ≡ count = omega (arith, none) in
    let P : ℕ → Type 0 = λ k. Drains old k new in
    subst P nothing (drains_by old mid new looks count n same all most so_far d
    (λ some. absurd (none_brings d.answer n d.means none some)))

pub ok_of : {T E : Type 0} (r : Result T E) → is_err r ≡ false → is_ok r ≡ true
ok_of (Ok x) good = refl
ok_of (Err e) good = absurd (cc)
