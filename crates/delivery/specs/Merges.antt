-- Lists that are made of others.
use Rattle.std.specs.Prelude.{◌≡◌, ℕ, ◌<◌, ◌==◌, ◌⊎◌, List, [], ◌∷◌, map, if◌then◌else◌}
use Rattle.std.specs.List.{AllByRecursion}

-- the values that bear this number, in order
abbrev pub values_of : {A : Type 0} → ℕ → List (ℕ × A) → List A
values_of i [] = []
values_of i (x ∷ xs) = if x.0 == i then x.1 ∷ values_of i xs else values_of i xs

-- The whole is a merge of so many parts: each of its elements is of one part, and the elements of a
-- part are, in order, the part.
pub record IsMerge {A : Type 0} (count : ℕ) (part : ℕ → List A) (whole : List A) : Type 0 where
  pub owned : List (ℕ × A)
  pub all : map (λ x. x.1) owned ≡ whole
  pub owners : AllByRecursion (λ x. x.0 < count) owned
  pub each : (i : ℕ) → values_of i owned ≡ part i

-- The first is left when elements of the second are struck out: in the same order, each at most
-- once.
abbrev pub IsSublist : {A : Type 0} → List A → List A → Type 0
IsSublist {A} [] ys = Unit {0}
IsSublist {A} (x ∷ xs) [] = ⊥
IsSublist {A} (x ∷ xs) (y ∷ ys) = (x ≡ y) × IsSublist xs ys ⊎ IsSublist (x ∷ xs) ys
