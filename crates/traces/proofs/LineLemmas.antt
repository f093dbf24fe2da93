-- A text searched for an octet, and cut at its first separator.
use Rattle.std.proofs.Common.{◌≡◌, ℕ, ◌+◌, ◌<◌, ◌≤◌, ◌==◌, Bool, true, false, List, [], ◌∷◌, ◌++◌}
use Rattle.std.proofs.Common.{length, take, drop, cond, Option, Some, None, option_map, refl, sym}
use Rattle.std.proofs.Common.{ap, ◌∙◌, subst, arith}
use Rattle.std.specs.Prelude.{position, nat_lt, IfSome}
use Rattle.std.specs.List.{slice_split, position_from, position_or_len}
use Rattle.std.proofs.lemmas.Iterator.Adapters.{position_from-zero}
use Rattle.std.proofs.lemmas.List.{length-take-le, take-append-drop}
use Rattle.std.proofs.lemmas.Bool.{ltb-true, lt-ltb, false_from_ne_true}
use Rattle.std.proofs.lemmas.List.Sums.{fails_before_first, position_or_len_is}
use Rattle.std.proofs.lemmas.List.Splits.{slice_split_first, slice_split_none}
use Rattle.memchr.specs.Find.{IsFirstByte}
use Rattle.traces.specs.Fields.{parts_after}

pub cut_here : (text : List ℕ) (separator i : ℕ) → position (λ b. b == separator) text ≡ Some i
    → slice_split (λ b. b == separator) text
    ≡ take i text ∷ parts_after separator (Some (drop (i + 1) text))
cut_here text separator i found = by_case (nat_lt n (length text)) refl found
  where
    p : ℕ → Bool
    p = λ b. b == separator

    n : ℕ
    n = position_or_len p text

    by_case : (b : Bool) → nat_lt n (length text) ≡ b → cond b (Some n) None ≡ Some i
        → slice_split p text ≡ take i text ∷ slice_split p (drop (i + 1) text)
    by_case true e h =
        subst (λ j. slice_split p text ≡ take j text ∷ slice_split p (drop (j + 1) text))
        (let same : n
        ≡ i = cc in same) (slice_split_first p text 0 (ltb-true n (length text) e))
    by_case false e h = cc

pub cut_nowhere : (text : List ℕ) (separator : ℕ) → position (λ b. b == separator) text ≡ None
    → slice_split (λ b. b == separator) text ≡ text ∷ []
cut_nowhere text separator none = by_case (nat_lt n (length text)) refl none
  where
    p : ℕ → Bool
    p = λ b. b == separator

    n : ℕ
    n = position_or_len p text

    by_case : (b : Bool) → nat_lt n (length text) ≡ b → cond b (Some n) None ≡ None
        → slice_split p text ≡ text ∷ []
    by_case true e h = cc
    by_case false e h =
        slice_split_none p text
        (λ k d lt. fails_before_first p text k d (omega (arith, lt, beyond n (length text) e)))
      where
        beyond : (a b : ℕ) → nat_lt a b ≡ false → b ≤ a
        beyond a b e = grind arith

-- the octet that a search finds is at the first position
pub found_first : (test : ℕ → Bool) (text : List ℕ) (r : Option ℕ) → IsFirstByte test text r
    → r ≡ position test text
found_first test text None h =
    let n : position_or_len test text ≡ length text =
    position_or_len_is test text (length text) 0 (omega arith)
    (λ k lt. false_from_ne_true _ (h k (omega arith) lt))
    (λ lt. absurd (omega (arith, lt))) in
    let off : nat_lt (position_or_len test text) (length text) ≡ false = grind (arith, n) in
    sym (ap (λ b. cond b (Some (position_or_len test text)) None) off)
found_first test text (Some i) h =
    let before = h.0 in
    let high = before.high in
    let n : position_or_len test text ≡ i =
    position_or_len_is test text i 0 (omega arith)
    (λ k lt. false_from_ne_true _ (before.before k (omega arith) lt)) (λ lt. h.1) in
    let on : nat_lt (position_or_len test text) (length text) ≡ true =
    lt-ltb (position_or_len test text) (length text) (omega (arith, n)) in
    sym (ap (λ b. cond b (Some (position_or_len test text)) None) on ∙ ap Some n)

pub found_within : (test : ℕ → Bool) (text : List ℕ) (r : Option ℕ) → IsFirstByte test text r
    → IfSome r (λ i. i < length text)
found_within test text None h = tt
found_within test text (Some i) h = h.0.high

-- A search in two parts

kept : (test : ℕ → Bool) (i : ℕ) (front rest : List ℕ) (j : ℕ) → position_from test i front ≡ Some j
    → position_from test i (front ++ rest) ≡ Some j
kept test i [] rest j e = cc
kept test i (x ∷ xs) rest j e = by (test x) e (kept test (i + 1) xs rest j)
  where
    by : (b : Bool) → cond b (Some i) (position_from test (i + 1) xs) ≡ Some j
        → (position_from test (i + 1) xs ≡ Some j → position_from test (i + 1) (xs ++ rest)
        ≡ Some j)
        → cond b (Some i) (position_from test (i + 1) (xs ++ rest)) ≡ Some j
    by true e more = e
    by false e more = more e

passed : (test : ℕ → Bool) (i : ℕ) (front rest : List ℕ) → position_from test i front ≡ None
    → position_from test i (front ++ rest) ≡ position_from test (i + length front) rest
passed test i [] rest e = let same : i ≡ i + 0 = omega arith in
    ap (λ n. position_from test n rest) same
passed test i (x ∷ xs) rest e = by (test x) e (passed test (i + 1) xs rest)
  where
    by : (b : Bool) → cond b (Some i) (position_from test (i + 1) xs) ≡ None
        → (position_from test (i + 1) xs ≡ None
        → position_from test (i + 1) (xs ++ rest) ≡ position_from test (i + 1 + length xs) rest)
        → cond b (Some i) (position_from test (i + 1) (xs ++ rest))
        ≡ position_from test (i + length (x ∷ xs)) rest
    by true e more = cc
    by false e more =
        let same : i + 1 + length xs ≡ i + length (x ∷ xs) = omega arith in
        more e ∙ ap (λ n. position_from test n rest) same

moved : (test : ℕ → Bool) (i j : ℕ) (xs : List ℕ) → position_from test (i + j) xs
    ≡ option_map (λ k. i + k) (position_from test j xs)
moved test i j [] = refl
moved test i j (x ∷ xs) = by (test x) (moved test i (j + 1) xs)
  where
    by : (b : Bool) → position_from test (i + (j + 1)) xs
        ≡ option_map (λ k. i + k) (position_from test (j + 1) xs)
        → cond b (Some (i + j)) (position_from test (i + j + 1) xs)
        ≡ option_map (λ k. i + k) (cond b (Some j) (position_from test (j + 1) xs))
    by true rest = refl
    by false rest =
        let same : i + j + 1 ≡ i + (j + 1) = omega arith in ap (λ n. position_from test n xs) same
        ∙ rest

pub found_near : (test : ℕ → Bool) (text : List ℕ) (n i : ℕ) → Some i ≡ position test (take n text)
    → Some i ≡ position test text
found_near test text n i found =
    sym (position_from-zero test text ∙ ap (position_from test 0) (sym (take-append-drop n text))
    ∙ kept test 0 (take n text) (drop n text) i
    (sym (found ∙ position_from-zero test (take n text))))

pub found_far : (test : ℕ → Bool) (text : List ℕ) (n : ℕ) (found : Option ℕ) → n ≤ length text
    → None ≡ position test (take n text) → found ≡ position test (drop n text)
    → option_map (λ k. n + k) found ≡ position test text
found_far test text n found le none is =
    let same : 0 + length (take n text) ≡ n + 0 = omega (arith, length-take-le n text le) in
    sym (position_from-zero test text ∙ ap (position_from test 0) (sym (take-append-drop n text))
    ∙ passed test 0 (take n text) (drop n text) (sym (none ∙ position_from-zero test (take n text)))
    ∙ ap (λ m. position_from test m (drop n text)) same
    ∙ moved test n 0 (drop n text)
    ∙ ap (option_map (λ k. n + k)) (sym (position_from-zero test (drop n text)) ∙ sym is))
