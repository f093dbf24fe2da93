-- Texts that stand one behind the other, with a line feed between them: their lines, and the events
-- of those.
use Rattle.std.proofs.Common.{◌≡◌, ℕ, ◌+◌, true, false, Bool, cond, List, [], ◌∷◌, ◌++◌, length}
use Rattle.std.proofs.Common.{map, filter_map, Some, None, refl, ap, ◌∙◌, arith, sym}
use Rattle.std.specs.List.{onto_first, count_by}
use Rattle.std.specs.Prelude.{◌==◌}
use Rattle.std.proofs.lemmas.List.{map-append}
use Rattle.std.proofs.lemmas.List.Elements.{filter_map-append}
use Rattle.std.proofs.lemmas.List.Splits.{length-slice_split}
use Rattle.traces.specs.Progress.{came, events_in}
use Rattle.traces.specs.Trace.{lines_of, logged, is_wrong, first_wrong}

-- Lines

onto_more : (x n : ℕ) (xs ys : List (List ℕ)) → length xs ≡ n + 1 → onto_first x (xs ++ ys)
    ≡ onto_first x xs ++ ys
onto_more x n [] ys some = absurd (omega (arith, some))
onto_more x n (l ∷ xs) ys some = refl

-- the lines of two texts are those of the one and of the other
pub lines_joined : (a b : List ℕ) → lines_of (a ++ 10 ∷ b) ≡ lines_of a ++ lines_of b
lines_joined [] b = refl
lines_joined (x ∷ a) b = by (lines_joined a b) (x == 10)
  where
    by : lines_of (a ++ 10 ∷ b) ≡ lines_of a ++ lines_of b → (c : Bool)
        → cond c ([] ∷ lines_of (a ++ 10 ∷ b)) (onto_first x (lines_of (a ++ 10 ∷ b)))
        ≡ cond c ([] ∷ lines_of a) (onto_first x (lines_of a)) ++ lines_of b
    by rest true = ap (λ ls. [] ∷ ls) rest
    by rest false = ap (onto_first x) rest
        ∙ onto_more x (count_by (λ y. y == 10) a) (lines_of a) (lines_of b)
        (length-slice_split (λ y. y == 10) a)

-- Wrong lines

none_some : {A : Type 0} {n : ℕ} → Some n ≡ None → A
none_some h = cc

pub wrong_behind : (n : ℕ) (xs ys : List (List ℕ)) → first_wrong n xs ≡ None
    → first_wrong n (xs ++ ys) ≡ first_wrong (n + length xs) ys
wrong_behind n [] ys right = ap (λ m. first_wrong m ys) (omega arith)
wrong_behind n (x ∷ xs) ys right = by (wrong_behind (n + 1) xs ys) (is_wrong x) right
  where
    by : (first_wrong (n + 1) xs ≡ None → first_wrong (n + 1) (xs ++ ys)
        ≡ first_wrong (n + 1 + length xs) ys)
        → (c : Bool) → cond c (Some n) (first_wrong (n + 1) xs) ≡ None
        → cond c (Some n) (first_wrong (n + 1) (xs ++ ys)) ≡ first_wrong (n + length (x ∷ xs)) ys
    by rest true h = none_some h
    by rest false h = rest h ∙ ap (λ m. first_wrong m ys) (omega arith)

pub wrong_before : (n k : ℕ) (xs ys : List (List ℕ)) → first_wrong n xs ≡ Some k
    → first_wrong n (xs ++ ys) ≡ Some k
wrong_before n k [] ys wrong = none_some (sym wrong)
wrong_before n k (x ∷ xs) ys wrong = by (wrong_before (n + 1) k xs ys) (is_wrong x) wrong
  where
    by : (first_wrong (n + 1) xs ≡ Some k → first_wrong (n + 1) (xs ++ ys) ≡ Some k) → (c : Bool)
        → cond c (Some n) (first_wrong (n + 1) xs) ≡ Some k
        → cond c (Some n) (first_wrong (n + 1) (xs ++ ys)) ≡ Some k
    by rest true h = h
    by rest false h = rest h

-- wherever the count begins
pub none_wrong_from : (m n : ℕ) (xs : List (List ℕ)) → first_wrong m xs ≡ None → first_wrong n xs
    ≡ None
none_wrong_from m n [] right = refl
none_wrong_from m n (x ∷ xs) right = by (none_wrong_from (m + 1) (n + 1) xs) (is_wrong x) right
  where
    by : (first_wrong (m + 1) xs ≡ None → first_wrong (n + 1) xs ≡ None) → (c : Bool)
        → cond c (Some m) (first_wrong (m + 1) xs) ≡ None
        → cond c (Some n) (first_wrong (n + 1) xs) ≡ None
    by rest true h = none_some h
    by rest false h = rest h

-- Events

pub events_joined : (xs ys : List (List ℕ)) → events_in (xs ++ ys) ≡ events_in xs ++ events_in ys
events_joined xs ys = ap (map came) (filter_map-append logged xs ys)
    ∙ map-append came (filter_map logged xs) (filter_map logged ys)
