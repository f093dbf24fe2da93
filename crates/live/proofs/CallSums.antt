-- What the calls of a stream mean, and what they came to.
use Rattle.std.proofs.Common.{◌≡◌, ℕ, ◌+◌, ◌≤◌, ◌==◌, Bool, true, false, List, [], ◌∷◌, ◌++◌}
use Rattle.std.proofs.Common.{not, length, take, Some, None, Result, Ok, Err, refl, sym, ap}
use Rattle.std.proofs.Common.{subst, drop}
use Rattle.std.proofs.Common.{◌∙◌, arith, inl, inr, ◌⊎◌}
use Rattle.std.specs.Prelude.{◌↔◌}
use Rattle.std.proofs.lemmas.List.{append_cancel_left, length-take-le, take_all}
use Rattle.std.specs.declared.io.Error.{Error}
use Rattle.live.specs.CallSums.{BroughtNone, IsHandedOn, IsReadEmpty, brought_in, received_in}
use Rattle.live.specs.Streams.{Calls, DropsWaiting, Drained, Enough, IsDrained, IsReadOut}
use Rattle.live.specs.Streams.{NoMore, NoneCame, OneMore, ReadAnswer, ReadsFrame, ReadsOn}
use Rattle.live.specs.Streams.{Received, Refused, Sent, SystemCall, Took, Waits, Whole, WritesAll}
use Rattle.live.specs.Streams.{Again, AtOnce, HandsOn, Unwaited, WritesInTwo}
use Rattle.live.specs.Streams.{WritesFront, brings, brought, called, ends_frame, looked, taken_of}
use Rattle.live.specs.Streams.{takes_all, took}
use Rattle.live.proofs.Writes.{eq_by, took_once, unequal}

-- a write is taken if all its octets are
pub front_taken : (old new : List SystemCall) (octets : List ℕ) (is_taken : Bool)
    → WritesFront (Some old) octets is_taken (Some new)
    → (is_taken ≡ true) ↔ (took new ≡ took old ++ octets)
front_taken old new octets is_taken w = (
  λ is. let whole : (w.count == length octets) ≡ true = sym w.all ∙ is in
      w.taken ∙ ap (λ xs. took old ++ xs) (take_all w.count octets (grind (arith, whole))),
  λ same. let as_long : take w.count octets ≡ octets =
      append_cancel_left (took old) (take w.count octets) octets (sym w.taken ∙ same) in
      let many : w.count ≡ length octets =
      sym (length-take-le w.count octets w.bound) ∙ ap (λ xs. length xs) as_long in
      w.all ∙ eq_by (w.count == length octets) true (λ e. refl) (λ e. grind (arith, many)),
)

answer_all : (answer : Result ℕ Error) (size : ℕ) → 1 ≤ size
    → takes_all answer size ≡ (taken_of answer == size)
answer_all (Ok count) size some = refl
answer_all (Err fault) size some = sym (unequal 0 size (λ e. grind (arith, e, some)))

front_of : (old new : Calls) (octets : List ℕ) (is_taken : Bool) → 1 ≤ length octets
    → WritesAll old octets is_taken new → WritesFront old octets is_taken new
front_of old new octets is_taken some w =
    let P : Calls → Type 0 = λ c. Took old (take (taken_of w.answer) octets) c in record {
      count = taken_of w.answer;
      bound = w.bound;
      taken = subst P (sym w.asked) (took_once old octets w.answer);
      all = w.means ∙ answer_all w.answer (length octets) some;
    }

pub once_taken : (old new : List SystemCall) (octets : List ℕ) (is_taken : Bool)
    → WritesAll (Some old) octets is_taken (Some new) → 1 ≤ length octets
    → (is_taken ≡ true) ↔ (took new ≡ took old ++ octets)
once_taken old new octets is_taken w some =
    front_taken old new octets is_taken (front_of (Some old) (Some new) octets is_taken some w)

some_is : (a b : List SystemCall) → Some a ≡ Some b → a ≡ b
some_is a b e = cc

-- how a write in two calls was handed on
handed_by : (old new : Calls) (octets : List ℕ) (before calls : List SystemCall)
    → HandsOn old octets new → old ≡ Some before → new ≡ Some calls
    → (first : Result ℕ Error) × IsHandedOn octets first before calls
handed_by old new octets before calls (AtOnce w) was is = (
  w.answer,
  inl (
    sym w.means,
    some_is _ _
        (sym is ∙ (w.asked ∙ ap (λ c. called c (Sent octets w.answer)) was)),
  ),
)
handed_by old new octets before calls (Unwaited n mid w part done) was is =
    let first = w.asked ∙ ap (λ c. called c (Sent octets w.answer)) was in (
      w.answer,
      inr (inl (some_is _ _
          (sym is ∙ (done ∙ ap (λ c. called c (Waits true false)) first)))),
    )
handed_by old new octets before calls (Again n mid last is_taken is_set w part a done) was is =
    let first = w.asked ∙ ap (λ c. called c (Sent octets w.answer)) was in
    let P : ℕ → Type 0 = λ k. calls
    ≡ Waits false is_set ∷ (Sent (drop k octets) a.answer
    ∷ (Waits true true ∷ (Sent octets w.answer ∷ before))) in (
      w.answer,
      inr (inr (
        a.answer,
        is_set,
        subst P w.means (some_is _ _
            (sym is ∙ (done ∙ ap (λ c. called c (Waits false is_set))
            (a.asked ∙ ap (λ c. called (called c (Waits true true)) (Sent (drop n octets) a.answer))
            first)))),
      )),
    )

pub handed_on : (old new : List SystemCall) (octets : List ℕ) (is_taken : Bool)
    → WritesInTwo (Some old) octets is_taken (Some new)
    → (first : Result ℕ Error) × IsHandedOn octets first old new
handed_on old new octets is_taken w =
    handed_by (Some old) (Some new) octets old new w.goes_on refl refl

-- a look goes on until a frame ends
on_noted : (calls : List SystemCall) (first : List ℕ) (count : ℕ) (octets : List ℕ) (mid : Calls)
    → ReadsOn (Some calls) first count octets mid
    → (list : List SystemCall) × (mid ≡ Some list)
    × (received_in list ≡ received_in calls + count)
on_noted calls first _ _ _ NoMore =
    let none : received_in calls ≡ received_in calls + 0 = omega arith in (calls, refl, none)
on_noted calls first _ _ _ (OneMore count n octets more mid new reads not once some) =
    let r = on_noted calls first count octets mid reads in
    let counted : received_in r.0 ≡ received_in calls + count = r.2 in
    let one : received_in r.0 + 1 ≡ received_in calls + (count + 1) = grind (arith, counted) in (
      Received more once.answer ∷ r.0,
      once.asked ∙ ap (λ c. called c (Received more once.answer)) r.1,
      one,
    )

LastNone : Calls → Type 0
LastNone None = ⊥
LastNone (Some list) = BroughtNone list

received_of : Calls → ℕ
received_of None = 0
received_of (Some list) = received_in list

on_by : (calls new : List SystemCall) (first : List ℕ) (count : ℕ) (octets : List ℕ) (mid : Calls)
    → ReadsOn (Some calls) first count octets mid → IsReadOut count octets mid (Some new)
    → (ends_frame octets ≡ true)
    ⊎ (BroughtNone new ⊎ (received_in new ≡ received_in calls + 15))
unfolding LastNone received_of
on_by calls new first count octets mid reads (Whole ends same) = inl ends
on_by calls new first count octets mid reads (NoneCame not once) =
    let r = on_noted calls first count octets mid reads in
    let last : Some new ≡ Some (Received [] once.answer ∷ r.0) =
    once.asked ∙ ap (λ c. called c (Received [] once.answer)) r.1 in
    let P : Calls → Type 0 = λ c. LastNone c in
    inr (inl (subst P (sym last) (sym once.means)))
on_by calls new first count octets mid reads (Enough many same) =
    let r = on_noted calls first count octets mid reads in
    let whole : received_in new ≡ received_in calls + count =
    ap received_of (same ∙ r.1) ∙ r.2 in
    inr (inr (whole ∙ ap (λ k. received_in calls + k) many))

pub goes_on : (calls new : List SystemCall) (first octets : List ℕ)
    → ReadsFrame (Some calls) first octets (Some new)
    → (ends_frame octets ≡ true)
    ⊎ (BroughtNone new ⊎ (received_in new ≡ received_in calls + 15))
goes_on calls new first octets f = on_by calls new first f.count octets f.mid f.reads f.out

-- what waits is read until none comes
looked_noted : (looks : List ReadAnswer) (calls : List SystemCall)
    → (list : List SystemCall) × (looked looks (Some calls) ≡ Some list)
    × (received_in list ≡ received_in calls + length looks)
    × (brought_in list ≡ brought_in calls + brought looks)
looked_noted [] calls =
    let none : received_in calls ≡ received_in calls + 0 = omega arith in
    let no_more : brought_in calls ≡ brought_in calls + 0 = omega arith in
    (calls, refl, none, no_more)
looked_noted (answer ∷ before) calls =
    let r = looked_noted before calls in
    let many : received_in r.0 ≡ received_in calls + length before = r.2 in
    let octets : brought_in r.0 ≡ brought_in calls + brought before = r.3 in
    let n = taken_of answer.count in
    let one : received_in r.0 + 1 ≡ received_in calls + length (answer ∷ before) =
    grind (arith, many) in
    let more : brought_in r.0 + n ≡ brought_in calls + (brought before + n) =
    grind (arith, octets) in (
      Received answer.octets answer.count ∷ r.0,
      ap (λ c. called c (Received answer.octets answer.count)) r.1,
      one,
      more,
    )

none_by : (n : ℕ) (zero : Bool) → (n == 0) ≡ zero → not zero ≡ false → n ≡ 0
none_by n true is none = grind (arith, is)
none_by n false is none = let wrong : true ≡ false = none in absurd (cc)

none_of : (n : ℕ) → not (n == 0) ≡ false → n ≡ 0
none_of n none = none_by n (n == 0) refl none

last_of : (answer : ReadAnswer) (before : List ReadAnswer) (calls list : List SystemCall)
    (some : Bool) → brings answer ≡ some → IsDrained (answer ∷ before)
    → looked (answer ∷ before) (Some calls) ≡ Some list
    → received_in list ≡ received_in calls + length (answer ∷ before)
    → BroughtNone list ⊎ (received_in list ≡ received_in calls + 64)
unfolding LastNone
last_of answer before calls list true some d is many =
    let full : length before ≡ 63 = d.2 some in
    inr (grind (arith, many, full))
last_of answer before calls list false none d is many =
    let r = looked_noted before calls in
    let last : Some list ≡ Some (Received answer.octets answer.count ∷ r.0) =
    sym is ∙ ap (λ c. called c (Received answer.octets answer.count)) r.1 in
    let P : Calls → Type 0 = λ c. LastNone c in
    inl (subst P (sym last) (none_of (taken_of answer.count) none))

out_of : (looks : List ReadAnswer) (calls list : List SystemCall) → IsDrained looks
    → looked looks (Some calls) ≡ Some list
    → received_in list ≡ received_in calls + length looks
    → BroughtNone list ⊎ (received_in list ≡ received_in calls + 64)
out_of [] calls list d is many = absurd d
out_of (answer ∷ before) calls list d is many =
    last_of answer before calls list (brings answer) refl d is many

list_of : Calls → List SystemCall
list_of None = []
list_of (Some list) = list

-- what stands in the calls behind a drop
record IsDropped (old new : List SystemCall) (count : ℕ) : Type 0 where
  empty : (new ≡ Waits false false ∷ old) ⊎ IsReadEmpty old new
  counted : brought_in new ≡ brought_in old + count

dropped_by : (old new : List SystemCall) (count : ℕ) → DropsWaiting (Some old) count (Some new)
    → IsDropped old new count
unfolding list_of
dropped_by old new count (Refused nothing done) =
    let is : new ≡ Waits false false ∷ old = ap list_of done in
    let same : brought_in new ≡ brought_in old = ap brought_in is in
    record { empty = inl is; counted = grind (arith, same, nothing) }
dropped_by old new count (Drained mid is_set d done) =
    let r = looked_noted d.looks (Waits false true ∷ old) in
    let after : mid ≡ Some r.0 = d.asked ∙ r.1 in
    let is : new ≡ Waits true is_set ∷ r.0 =
    ap list_of (done ∙ ap (λ c. called c (Waits true is_set)) after) in
    let octets : brought_in r.0 ≡ brought_in old + brought d.looks = r.3 in
    let count_is : count ≡ brought d.looks = d.counted in
    record {
      empty = inr (record {
        reads = r.0;
        is_set = is_set;
        last = is;
        out = out_of d.looks (Waits false true ∷ old) r.0 d.drained r.1 r.2;
      });
      counted = ap brought_in is ∙ (octets ∙ ap (λ k. brought_in old + k) (sym count_is));
    }

pub emptied : (old new : List SystemCall) (count : ℕ) → DropsWaiting (Some old) count (Some new)
    → (new ≡ Waits false false ∷ old) ⊎ IsReadEmpty old new
emptied old new count d = (dropped_by old new count d).empty

pub counted : (old new : List SystemCall) (count : ℕ) → DropsWaiting (Some old) count (Some new)
    → brought_in new ≡ brought_in old + count
counted old new count d = (dropped_by old new count d).counted
