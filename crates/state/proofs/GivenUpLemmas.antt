-- What a start gives up, one by one.
use Rattle.std.specs.Prelude.{option_map, slice_get}
use Rattle.std.specs.List.{flat_map}
use Rattle.std.proofs.Common.{◌≡◌, ℕ, zero, suc, ◌<◌, List, [], ◌∷◌, ◌++◌, drop, length, Option}
use Rattle.std.proofs.Common.{Some, None, refl, ap, arith}

module _ {A B C : Type 0} (see : A → B) (each : B → List C) where
  abbrev all : List A → List C
  all xs = flat_map (λ (x : A). each (see x)) xs

  -- what is seen at a place comes before what stands behind it
  pub all_next : (xs : List A) (place : ℕ) (b : B) → Some b ≡ option_map see (slice_get xs place)
      → all (drop place xs) ≡ each b ++ all (drop (suc place) xs)
  all_next [] place b e = cc
  all_next (x ∷ xs) zero b e =
      let same : see x ≡ b = cc in
      ap (λ (b : B). each b ++ all xs) same
  all_next (x ∷ xs) (suc place) b e = all_next xs place b e

  pub all_done : (xs : List A) (place : ℕ) → None ≡ option_map see (slice_get xs place)
      → all (drop place xs) ≡ []
  all_done [] zero e = refl
  all_done [] (suc place) e = refl
  all_done (x ∷ xs) zero e = cc
  all_done (x ∷ xs) (suc place) e = all_done xs place e

  pub place_within : (xs : List A) (place : ℕ) (b : B)
      → Some b ≡ option_map see (slice_get xs place) → place < length xs
  place_within [] place b e = cc
  place_within (x ∷ xs) zero b e = omega arith
  place_within (x ∷ xs) (suc place) b e = omega (arith, place_within xs place b e)

-- a thing that is seen as it is
pub as_it_is : {A : Type 0} (o : Option A) → o ≡ option_map (λ (x : A). x) o
as_it_is {A} None = refl
as_it_is {A} (Some x) = refl
