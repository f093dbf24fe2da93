-- What `read` answers, against the ASDUs that the octets spell.
use Rattle.std.proofs.Common.{◌≡◌, ℕ, List, Some, None, Result, Ok, Err, sym, ap, subst, ◌∙◌}
use Rattle.std.specs.Prelude.{slice_index, IfOk, IfErr, IsOkAnd}
use Rattle.elements.specs.declared.types.TypeId.{TypeId}
use Rattle.elements.specs.Types.{type_of}
use Rattle.elements.specs.Octets.{AreOctets}
use Rattle.elements.proofs.TypeCodes.{type_of-code}
use Rattle.asdu.specs.declared.sizes.Sizes.{Sizes}
use Rattle.asdu.specs.declared.unit.Asdu.{Asdu}
use Rattle.asdu.specs.declared.unit.Refused.{Refused}
use Rattle.asdu.specs.Asdu.{AsduValue, IsAsdu, spelled}
use Rattle.asdu.specs.Fields.{value_at}
use Rattle.asdu.specs.Refusals.{refusal}
use Rattle.asdu.specs.Reading.{value_of}
use Rattle.asdu.proofs.Spelling.{IsWhole, accepted, refusal-none, IsAsdu-value_at, IsWhole-spelled}
use Rattle.asdu.proofs.Spelling.{value_at-spelled}

pub IsWhole-accepted : (s : Sizes) (t : TypeId) (xs : List ℕ) → type_of (slice_index xs 0) ≡ Some t
    → refusal s xs ≡ None → IsWhole s t xs
IsWhole-accepted s t xs named h =
    let a = accepted s xs h in
    let same : a.0 ≡ t = cc in
    let P : TypeId → Type 0 = λ u. IsWhole s u xs in
    subst P same a.2

pub IsAsdu-value_of : (a : Asdu) → AreOctets a.octets.now → IsAsdu a.sizes (value_of a) a.octets.now
IsAsdu-value_of a all =
    IsAsdu-value_at a.sizes a.kind a.octets.now a.named
    (IsWhole-accepted a.sizes a.kind a.octets.now a.named a.well_formed) all

pub found : (s : Sizes) (xs : List ℕ) (r : Result Asdu Refused) → AreOctets xs
    → IfOk r (λ a. (a.sizes ≡ s) × (a.octets.now ≡ xs)) → IfOk r (λ a. IsAsdu s (value_of a) xs)
found s xs (Ok a) all h =
    let Q : List ℕ → Type 0 = λ ys. AreOctets ys in
    let here = IsAsdu-value_of a (subst Q (sym h.1) all) in
    let P : Sizes → Type 0 = λ z. IsAsdu z (value_of a) a.octets.now in
    let R : List ℕ → Type 0 = λ ys. IsAsdu s (value_of a) ys in
    subst R h.1 (subst P h.0 here)
found s xs (Err why) all h = tt

pub only : (s : Sizes) (xs : List ℕ) (r : Result Asdu Refused)
    → IfOk r (λ a. (a.sizes ≡ s) × (a.octets.now ≡ xs))
    → IfErr r (λ why. refusal s xs ≡ Some why.0) → (v : AsduValue) → IsAsdu s v xs
    → IsOkAnd r (λ a. value_of a ≡ v)
only s xs (Ok a) source fault v spells =
    let code = type_of-code v.kind in
    let text = spells.octets in
    let name = a.named in
    let first : type_of (slice_index a.octets.now 0) ≡ Some v.kind =
    ap (λ ys. type_of (slice_index ys 0)) (source.1 ∙ text) ∙ code in
    let kind : a.kind ≡ v.kind = cc in
    ap (λ z. value_at z a.kind a.octets.now) source.0
    ∙ ap (λ t. value_at s t a.octets.now) kind
    ∙ ap (value_at s v.kind) (source.1 ∙ text)
    ∙ value_at-spelled s v spells.value
only s xs (Err why) source fault v spells =
    let code = type_of-code v.kind in
    let text = spells.octets in
    let none : refusal s (spelled s v) ≡ None = refusal-none s v.kind (spelled s v) code
    (IsWhole-spelled s v spells.value) in
    let same : refusal s xs ≡ refusal s (spelled s v) = ap (refusal s) text in
    cc
