-- The octet of a type.
use Rattle.std.proofs.Common.{◌≡◌, ℕ, Bool, true, false, List, [], ◌∷◌, subst, sym, refl}
use Rattle.std.specs.Prelude.{Some, find, if◌then◌else◌, ◌==◌}
use Rattle.std.proofs.lemmas.Bool.{eqb-true}
use Rattle.elements.specs.Types.{row, types, type_of}
use Rattle.elements.specs.declared.types.TypeId.{TypeId}

found_at : (p : TypeId → Bool) (x : TypeId) (xs : List TypeId) (t : TypeId) (b : Bool) → p x ≡ b
    → (if b then Some x else find p xs) ≡ Some t → (find p xs ≡ Some t → p t ≡ true) → p t ≡ true
found_at p x xs t true e h rest = (let same : x ≡ t = cc in
    subst (λ (y : TypeId). p y ≡ true) same e)
found_at p x xs t false e h rest = rest h

-- what is found passes
pub find_passes : (p : TypeId → Bool) (xs : List TypeId) (t : TypeId) → find p xs ≡ Some t
    → p t ≡ true
find_passes p [] t h = cc
find_passes p (x ∷ xs) t h = found_at p x xs t (p x) refl h (find_passes p xs t)

-- an octet that names a type is that type's
pub kind_code : (n : ℕ) (t : TypeId) → type_of n ≡ Some t → n ≡ (row t).code
unfolding type_of
kind_code n t h = sym (eqb-true (row t).code n (find_passes (λ u. (row u).code == n) types t h))
