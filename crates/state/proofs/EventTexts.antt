-- The first whole line of a text.
use Rattle.std.proofs.Common.{◌≡◌, ℕ, ◌+◌, ◌-◌, ◌<◌, ◌≤◌, ◌==◌, Bool, true, false, List, [], ◌∷◌}
use Rattle.std.proofs.Common.{length, take, drop, cond, Some, None, refl, sym, ap, ◌∙◌, subst}
use Rattle.std.proofs.Common.{arith}
use Rattle.std.specs.Prelude.{position, nat_lt}
use Rattle.std.specs.List.{slice_split, position_or_len}
use Rattle.std.proofs.lemmas.List.{drop-drop, take_rest, get_or-take, length-take-le}
use Rattle.std.proofs.lemmas.Bool.{ltb-true}
use Rattle.std.proofs.lemmas.List.Sums.{fails_before_first}
use Rattle.std.proofs.lemmas.List.Splits.{slice_split_first, slice_split_none, length-slice_split}
use Rattle.traces.specs.Trace.{lines_of}
use Rattle.state.specs.Replays.{whole_lines, whole_parts}

feed : ℕ → Bool
feed = λ b. b == 10

pub parts_read : (row : List ℕ) (parts : List (List ℕ)) → 0 < length parts
    → whole_parts (row ∷ parts) ≡ row ∷ whole_parts parts
parts_read row [] some = absurd (omega arith)
parts_read row (next ∷ parts) some = refl

beyond : (a b : ℕ) → nat_lt a b ≡ false → b ≤ a
beyond a b e = grind arith

pub row_first : (text : List ℕ) (i : ℕ) → position (λ b. b == 10) text ≡ Some i
    → whole_lines text ≡ take i text ∷ whole_lines (drop (i + 1) text)
unfolding whole_lines
row_first text i found = by_case (nat_lt n (length text)) refl found
  where
    p : ℕ → Bool
    p = λ b. b == 10

    n : ℕ
    n = position_or_len p text

    by_case : (b : Bool) → nat_lt n (length text) ≡ b → cond b (Some n) None ≡ Some i
        → whole_parts (slice_split p text)
        ≡ take i text ∷ whole_parts (slice_split p (drop (i + 1) text))
    by_case true e h =
        let same : n ≡ i = cc in
        let cut = slice_split_first p text 0 (ltb-true n (length text) e) in
        ap whole_parts
        (subst (λ j. slice_split p text ≡ take j text ∷ slice_split p (drop (j + 1) text)) same cut)
        ∙ parts_read (take i text) (slice_split p (drop (i + 1) text))
        (omega (arith, length-slice_split p (drop (i + 1) text)))
    by_case false e h = cc

pub no_row : (text : List ℕ) → position (λ b. b == 10) text ≡ None → whole_lines text ≡ []
unfolding whole_lines
no_row text none = by_case (nat_lt n (length text)) refl none
  where
    p : ℕ → Bool
    p = λ b. b == 10

    n : ℕ
    n = position_or_len p text

    by_case : (b : Bool) → nat_lt n (length text) ≡ b → cond b (Some n) None ≡ None
        → whole_parts (slice_split p text) ≡ []
    by_case true e h = cc
    by_case false e h =
        ap whole_parts
        (slice_split_none p text (λ k d lt. fails_before_first p text k d
        (omega (arith, lt, beyond n (length text) e))))

-- the same behind a place

pub row_behind : (text : List ℕ) (at i : ℕ)
    → position (λ b. b == 10) (take (length text - at) (drop at text)) ≡ Some i
    → whole_lines (drop at text) ≡ take i (take (length text - at) (drop at text))
    ∷ whole_lines (drop (at + i + 1) text)
row_behind text at i found =
    let rest : take (length text - at) (drop at text) ≡ drop at text = take_rest text at in
    let first : position (λ b. b == 10) (drop at text) ≡ Some i =
    subst (λ (l : List ℕ). position (λ b. b == 10) l ≡ Some i) rest found in
    row_first (drop at text) i first
    ∙ ap (λ (l : List ℕ). take i l ∷ whole_lines (drop (i + 1) (drop at text))) (sym rest)
    ∙ ap (λ (l : List ℕ). take i (take (length text - at) (drop at text)) ∷ whole_lines l)
    (drop-drop (i + 1) at text ∙ ap (λ (n : ℕ). drop n text) (let e : at + (i + 1) ≡ at + i + 1 =
    omega arith in e))

pub no_row_behind : (text : List ℕ) (at : ℕ)
    → position (λ b. b == 10) (take (length text - at) (drop at text)) ≡ None
    → whole_lines (drop at text) ≡ []
no_row_behind text at none =
    no_row (drop at text) (subst (λ (l : List ℕ). position (λ b. b == 10) l ≡ None)
    (take_rest text at) none)

-- the line itself has no line feed
pub one_row : (text : List ℕ) (i : ℕ) → position (λ b. b == 10) text ≡ Some i → i < length text
    → lines_of (take i text) ≡ take i text ∷ []
one_row text i found within = by_case (nat_lt n (length text)) refl found
  where
    p : ℕ → Bool
    p = λ b. b == 10

    n : ℕ
    n = position_or_len p text

    by_case : (b : Bool) → nat_lt n (length text) ≡ b → cond b (Some n) None ≡ Some i
        → slice_split p (take i text) ≡ take i text ∷ []
    by_case true e h =
        let same : n ≡ i = cc in
        slice_split_none p (take i text)
        (λ k d lt. before k d (omega (arith, lt, length-take-le i text (omega (arith, within))))
        same)
      where
        before : (k : ℕ) (d : ℕ) → k < i → n ≡ i
            → p (Rattle.std.specs.Prelude.get_or (take i text) k d) ≡ false
        before k d lt same = ap p (get_or-take i text k d lt)
            ∙ fails_before_first p text k d (omega (arith, lt, same))
    by_case false e h = cc
