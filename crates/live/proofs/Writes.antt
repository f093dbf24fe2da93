-- A write in two calls: what the first took isn't handed over again.
use Rattle.std.proofs.Common.{◌≡◌, ℕ, ◌+◌, ◌-◌, ◌≤◌, ◌==◌, true, false, Bool, List, [], ◌++◌}
use Rattle.std.proofs.Common.{length, take, drop, Some, None, Result, Ok, Err, arith, refl, sym, ap}
use Rattle.std.proofs.Common.{subst, ◌∙◌, ◌≢◌}
use Rattle.std.specs.Result.{is_err, is_ok}
use Rattle.std.specs.declared.io.Error.{Error}
use Rattle.std.proofs.Math.Seq.{take-add, take-append_seam}
use Rattle.std.proofs.lemmas.List.{append_assoc, append-nil, length-drop}
use Rattle.live.specs.Streams.{Calls, Sent, Waits, called, taken_of, takes_all, took, Took}
use Rattle.live.specs.Streams.{WritesOnce, WritesAll, WritesFront, WritesInTwo, AtOnce}
use Rattle.live.specs.Streams.{Unwaited, Again}

-- octets that one call more took
pub took_once : (old : Calls) (octets : List ℕ) (answer : Result ℕ Error)
    → Took old (take (taken_of answer) octets) (called old (Sent octets answer))
took_once None octets answer = tt
took_once (Some before) octets answer = refl

took_by : (old new : Calls) (octets : List ℕ) (n : ℕ) → WritesOnce old octets n new
    → Took old (take n octets) new
took_by old new octets n w =
    let P : Calls → Type 0 = λ c. Took old (take n octets) c in
    let Q : ℕ → Type 0 = λ k. Took old (take k octets) (called old (Sent octets w.answer)) in
    subst P (sym w.asked) (subst Q (sym w.means) (took_once old octets w.answer))

-- the first call took them all
pub written_whole : (old new : Calls) (octets : List ℕ) (n : ℕ) → WritesOnce old octets n new
    → n ≡ length octets
    → WritesInTwo old octets true new
written_whole old new octets n w all = record {
  front = record {
    count = n;
    bound = grind (arith, all);
    taken = took_by old new octets n w;
    all = grind (arith, all);
  };
  goes_on =
      let P : ℕ → Type 0 = λ k. WritesOnce old octets k new in AtOnce (subst P all w);
}

-- octets that two calls took, one after the other
took_both : (old mid new : Calls) (first second : List ℕ) → Took old first mid → Took mid second new
    → Took old (first ++ second) new
took_both None None None first second t u = tt
took_both None None (Some c) first second t u = u
took_both None (Some b) new first second t u = absurd t
took_both (Some a) None new first second t u = absurd t
took_both (Some a) (Some b) None first second t u = u
took_both (Some a) (Some b) (Some c) first second t u =
    u ∙ (ap (λ x. x ++ second) t ∙ append_assoc (took a) first second)

pub eq_by : (a b : Bool) → (a ≡ true → b ≡ true) → (b ≡ true → a ≡ true) → a ≡ b
eq_by true true f g = refl
eq_by false false f g = refl
eq_by true false f g = let wrong : false ≡ true = f refl in absurd (cc)
eq_by false true f g = let wrong : false ≡ true = g refl in absurd (cc)

all_by : (answer : Result ℕ Error) (n : ℕ) (octets : List ℕ) → n ≤ length octets
    → (n == length octets) ≡ false
    → takes_all answer (length (drop n octets)) ≡ (n + taken_of answer == length octets)
all_by (Ok count) n octets some part =
    eq_by (count == length (drop n octets)) (n + count == length octets)
    (λ e. grind (arith, e, some, length-drop n octets))
    (λ e. grind (arith, e, some, length-drop n octets))
all_by (Err fault) n octets some part =
    let none : n + 0 ≡ n = omega arith in sym (ap (λ k. k == length octets) none ∙ part)

pub unequal : (n l : ℕ) → (n ≡ l → ⊥) → (n == l) ≡ false
unequal n l other = eq_by (n == l) false (λ e. absurd (other (grind (arith, e))))
    (λ e. let wrong : false ≡ true = e in absurd (cc))

-- whether calls wait is no matter
waits_took : (old c : Calls) (octets : List ℕ) (w s : Bool) → Took old octets c
    → Took old octets (called c (Waits w s))
waits_took None None octets w s t = tt
waits_took None (Some b) octets w s t = t
waits_took (Some a) None octets w s t = t
waits_took (Some a) (Some b) octets w s t = t

waits_none : (c : Calls) (w s : Bool) → Took c [] (called c (Waits w s))
waits_none None w s = tt
waits_none (Some before) w s = sym (append-nil (took before))

pub written_refused : (old mid new : Calls) (octets : List ℕ) (n : ℕ) (w : Bool)
    → WritesOnce old octets n mid
    → n ≤ length octets → n ≢ length octets → w ≡ false → new ≡ called mid (Waits true w)
    → WritesInTwo old octets false new
written_refused old mid new octets n w once some part off done =
    let P : Calls → Type 0 = λ c. Took old (take n octets) c in
    let Q : Bool → Type 0 = λ b. new ≡ called mid (Waits true b) in
    record {
      front = record {
        count = n;
        bound = some;
        taken =
            subst P (sym done) (waits_took old mid (take n octets) true w
            (took_by old mid octets n once));
        all = sym (unequal n (length octets) part);
      };
      goes_on = Unwaited n mid once part (subst Q off done);
    }

-- the second call took the rest, or a part of it
written_rest : (old mid again last new : Calls) (octets : List ℕ) (n : ℕ) (is_taken w s v r : Bool)
    → WritesOnce old octets n mid → n ≤ length octets → (n ≡ length octets → ⊥)
    → again ≡ called mid (Waits w s)
    → WritesAll again (drop n octets) is_taken last → new ≡ called last (Waits v r)
    → WritesFront old octets is_taken new
written_rest old mid again last new octets n is_taken w s v r once some part same a stays =
    let m = taken_of a.answer in
    let rest = drop n octets in
    let P : Calls → Type 0 = λ c. Took mid [] c in
    let Q : Calls → Type 0 = λ c. Took again (take m rest) c in
    let R : List ℕ → Type 0 = λ xs. Took old xs new in
    let sent : Took again (take m rest) last =
    subst Q (sym a.asked) (took_once again rest a.answer) in
    let second : Took mid (take m rest) new =
    took_both mid again new [] (take m rest) (subst P (sym same) (waits_none mid w s))
    (subst Q (sym stays) (waits_took again last (take m rest) v r sent)) in
    record {
      count = n + m;
      bound = grind (arith, a.bound, some, length-drop n octets);
      taken = subst R (sym (take-add n m octets))
          (took_both old mid new (take n octets) (take m rest) (took_by old mid octets n once)
          second);
      all = a.means ∙ all_by a.answer n octets some (unequal n (length octets) part);
    }

-- the rest as a slice
rest_is : (n : ℕ) (xs : List ℕ) → take (length xs - n) (drop n xs) ≡ drop n xs
rest_is n xs =
    let rest = drop n xs in
    ap (λ k. take k rest) (sym (length-drop n xs))
    ∙ (ap (λ ys. take (length rest) ys) (sym (append-nil rest)) ∙ take-append_seam rest [])

pub written_slice : (old mid again last new : Calls) (octets : List ℕ) (n : ℕ)
    (is_taken s r : Bool)
    → WritesOnce old octets n mid → n ≤ length octets → n ≢ length octets
    → s ≡ true → again ≡ called mid (Waits true s)
    → WritesAll again (take (length octets - n) (drop n octets)) is_taken last
    → new ≡ called last (Waits false r)
    → WritesInTwo old octets is_taken new
written_slice old mid again last new octets n is_taken s r once some part on same a stays =
    let P : List ℕ → Type 0 = λ rest. WritesAll again rest is_taken last in
    let Q : Calls → Type 0 = λ c. WritesAll c (drop n octets) is_taken last in
    let rest : WritesAll again (drop n octets) is_taken last = subst P (rest_is n octets) a in
    let set : again ≡ called mid (Waits true true) =
    same ∙ ap (λ b. called mid (Waits true b)) on in
    record {
      front = written_rest old mid again last new octets n is_taken true s false r once some part
          same rest stays;
      goes_on = Again n mid last is_taken r once part (subst Q set rest) stays;
    }

-- a call that failed isn't one that was done
pub not_done : {A E : Type 0} (answer : Result A E) → is_err answer ≡ true → is_ok answer ≡ false
not_done (Ok value) e = let wrong : false ≡ true = e in absurd (cc)
not_done (Err fault) e = refl

pub done_so : {A E : Type 0} (answer : Result A E) → is_err answer ≡ false → is_ok answer ≡ true
done_so (Ok value) e = refl
done_so (Err fault) e = let wrong : true ≡ false = e in absurd (cc)
