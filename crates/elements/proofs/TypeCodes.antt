-- An octet names the type whose octet it is, and no other.
use Rattle.std.proofs.Common.{◌≡◌, ℕ, List, [], ◌∷◌, Bool, true, false, Option, Some, refl, eqb}
use Rattle.std.proofs.Common.{cond}
use Rattle.std.specs.List.{find}
use Rattle.std.proofs.lemmas.Bool.{eqb-true}
use Rattle.elements.specs.declared.types.TypeId.{TypeId}
use Rattle.elements.specs.declared.types.TypeId.TheVariants.{MSpNa1, MDpNa1, MStNa1, MBoNa1, MMeNa1}
use Rattle.elements.specs.declared.types.TypeId.TheVariants.{MMeNb1, MMeNc1, MItNa1, MSpTb1, MDpTb1}
use Rattle.elements.specs.declared.types.TypeId.TheVariants.{MStTb1, MBoTb1, MMeTd1, MMeTe1, MMeTf1}
use Rattle.elements.specs.declared.types.TypeId.TheVariants.{MItTb1, MEiNa1, CScNa1, CDcNa1, CRcNa1}
use Rattle.elements.specs.declared.types.TypeId.TheVariants.{CSeNa1, CSeNb1, CIcNa1, CScTa1, CDcTa1}
use Rattle.elements.specs.declared.types.TypeId.TheVariants.{CRcTa1, CSeTa1, CSeTb1}
use Rattle.elements.specs.Types.{row, type_of, types}

pub type_of-code : (t : TypeId) → type_of ((row t).code) ≡ Some t
unfolding type_of
type_of-code MSpNa1 = refl
type_of-code MDpNa1 = refl
type_of-code MStNa1 = refl
type_of-code MBoNa1 = refl
type_of-code MMeNa1 = refl
type_of-code MMeNb1 = refl
type_of-code MMeNc1 = refl
type_of-code MItNa1 = refl
type_of-code MSpTb1 = refl
type_of-code MDpTb1 = refl
type_of-code MStTb1 = refl
type_of-code MBoTb1 = refl
type_of-code MMeTd1 = refl
type_of-code MMeTe1 = refl
type_of-code MMeTf1 = refl
type_of-code MItTb1 = refl
type_of-code MEiNa1 = refl
type_of-code CScNa1 = refl
type_of-code CDcNa1 = refl
type_of-code CRcNa1 = refl
type_of-code CSeNa1 = refl
type_of-code CSeNb1 = refl
type_of-code CIcNa1 = refl
type_of-code CScTa1 = refl
type_of-code CDcTa1 = refl
type_of-code CRcTa1 = refl
type_of-code CSeTa1 = refl
type_of-code CSeTb1 = refl

first_passes : {X : Type 0} (p : X → Bool) (x y : X) (rest : Option X) (b : Bool) → p x ≡ b
    → (rest ≡ Some y → p y ≡ true) → cond b (Some x) rest ≡ Some y → p y ≡ true
first_passes p x y rest true here later h = cc
first_passes p x y rest false here later h = later h

pub find-passes : {X : Type 0} (p : X → Bool) (xs : List X) (y : X) → find p xs ≡ Some y
    → p y ≡ true
find-passes p [] y h = cc
find-passes p (x ∷ xs) y h = first_passes p x y (find p xs) (p x) refl (find-passes p xs y) h

pub code-type_of : (n : ℕ) (t : TypeId) → type_of n ≡ Some t → (row t).code ≡ n
unfolding type_of
code-type_of n t h = eqb-true (row t).code n (find-passes (λ u. eqb (row u).code n) types t h)
