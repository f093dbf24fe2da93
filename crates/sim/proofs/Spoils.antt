-- The code that spoils an octet.
use Rattle.std.proofs.Common.{◌≡◌, ℕ, zero, suc, ◌-◌, ◌<◌, List, [], ◌∷◌, length, drop, get_or}
use Rattle.std.proofs.Common.{slice_set, refl, ap, ◌∙◌, arith}
use Rattle.std.proofs.lemmas.List.{take_at}
use Rattle.std.specs.List.{refill}
use Rattle.ft12.specs.Spoiling.{spoilt}

length-spoilt : (place : ℕ) (xs : List ℕ) → length (spoilt place xs) ≡ length xs
length-spoilt place [] = refl
length-spoilt zero (x ∷ xs) = omega arith
length-spoilt (suc place) (x ∷ xs) = omega (arith, length-spoilt place xs)

set_spoilt : (place : ℕ) (xs : List ℕ) → place < length xs
    → slice_set xs place (255 - get_or xs place 0) ≡ spoilt place xs
set_spoilt place [] lt = absurd (omega arith)
set_spoilt zero (x ∷ xs) lt = refl
set_spoilt (suc place) (x ∷ xs) lt = ap (λ (l : List ℕ). x ∷ l) (set_spoilt place xs (omega arith))

refill_same : (xs ws : List ℕ) → length ws ≡ length xs → refill (length xs) xs ws ≡ ws
refill_same xs ws e = take_at ws (drop (length ws) xs) (length xs) e

pub spoil_refilled : (xs d e : List ℕ) (place : ℕ) → place < length xs → d ≡ xs → e ≡ xs →
    refill (length xs) xs (slice_set d place (255 - get_or e place 0)) ≡ spoilt place xs
spoil_refilled xs d e place lt p q =
    ap (λ (l : List ℕ). refill (length xs) xs (slice_set l place (255 - get_or e place 0))) p
    ∙ ap (λ (l : List ℕ). refill (length xs) xs (slice_set xs place (255 - get_or l place 0))) q
    ∙ ap (λ (l : List ℕ). refill (length xs) xs l) (set_spoilt place xs lt)
    ∙ refill_same xs (spoilt place xs) (length-spoilt place xs)
