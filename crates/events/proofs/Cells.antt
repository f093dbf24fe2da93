-- Pieces in the cells of a ring: the first ones, so many.
use Rattle.std.proofs.Common.{◌≡◌, ℕ, ◌+◌, ◌-◌, ◌<◌, ◌≤◌, List, [], ◌∷◌, ◌++◌, length, take, drop}
use Rattle.std.proofs.Common.{slice_set, ap, sym, ◌∙◌, arith, add-one}
use Rattle.std.proofs.lemmas.List.{drop-take}
use Rattle.std.proofs.Math.Seq.{take-suc-set}
use Rattle.arrayvec.specs.ArrayVec.{ArrayVec}
use Rattle.circular_buffer.specs.Buffer.{keep_last}
use Rattle.events.specs.Ring.{Ring, ring_of, appended}

-- one more, written over the cell behind them
pub appended_there : (cells before : List (ArrayVec ℕ)) (count capacity most : ℕ)
    (p : ArrayVec ℕ) (r : Ring) → count < length cells
    → take count cells ≡ before → capacity ≡ most → ring_of before most ≡ r
    → ring_of (take (count + 1) (slice_set cells count p)) capacity ≡ appended p.items r
appended_there cells before count capacity most p r lt same fits view =
    let written : take (count + 1) (slice_set cells count p) ≡ take count cells ++ p ∷ [] =
    ap (λ n. take n (slice_set cells count p)) (add-one count) ∙ take-suc-set cells count p lt in
    ap (λ xs. ring_of xs capacity) written
    ∙ ap (λ xs. ring_of (xs ++ p ∷ []) capacity) same
    ∙ ap (λ n. ring_of (before ++ p ∷ []) n) fits
    ∙ ap (λ (q : Ring). appended p.items q) view

-- without the n oldest
pub left_there : (cells : List (ArrayVec ℕ)) (count n : ℕ) → n ≤ count
    → take (count - n) (drop n cells) ≡ drop n (take count cells)
left_there cells count n le =
    let all : n + (count - n) ≡ count = omega arith in
    sym (drop-take n (count - n) cells) ∙ ap (λ k. drop n (take k cells)) all

pub none_left : (cells before : List (ArrayVec ℕ)) (count n : ℕ) → n ≤ count → count ≤ n
    → take (count - n) cells ≡ drop n (take count before)
none_left cells before count n le ge =
    let none : count - n ≡ 0 = omega arith in
    ap (λ k. take k cells) none ∙ sym (ap (λ k. take k (drop n before)) none)
    ∙ left_there before count n le

-- the cells behind the n first ones
pub others_kept : (cells : List (ArrayVec ℕ)) (n others : ℕ) → n ≤ length cells
    → others ≡ length cells - n
    → keep_last others cells ≡ drop n cells
others_kept cells n others le is = ap (λ k. drop k cells) (omega (arith, le, is))
