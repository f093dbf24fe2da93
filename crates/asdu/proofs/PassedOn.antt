-- Which reports are passed on, by the cause octet.
use Rattle.std.specs.Prelude.{◌==◌, ◌&&◌, not}
use Rattle.std.proofs.Common.{◌≡◌, ℕ, ◌<◌, ◌%◌, Bool, true, false, List, [], refl, ap, ◌∙◌}
use Rattle.std.proofs.Common.{◌⊎◌, inl, inr, arith}
use Rattle.std.proofs.lemmas.Bool.{eq-eqb, ne_eqb, eqb-false}
use Rattle.elements.specs.Types.{row}
use Rattle.elements.specs.declared.types.TypeId.{TypeId}
use Rattle.asdu.specs.declared.sizes.Sizes.{Sizes}
use Rattle.asdu.specs.Asdu.{AsduValue, IsAsdu}
use Rattle.asdu.specs.InformationObjects.{value_objects, monitor_objects_of, is_passed_on, only_if}
use Rattle.asdu.proofs.Related.{monitor_objects_of-IsAsdu}

passes : (t : TypeId) (cause : ℕ) → (row t).monitor ≡ true → (cause % 128 ≡ 108 → ⊥)
    → is_passed_on t cause ≡ true
passes t cause monitor other =
    let plain : (cause == 108) ≡ false =
    ne_eqb cause 108 (λ e. other (ap (λ (n : ℕ). n % 128) e)) in
    let tested : (cause == 236) ≡ false =
    ne_eqb cause 236 (λ e. other (ap (λ (n : ℕ). n % 128) e)) in
    rw (monitor, plain, tested) refl

stays : (t : TypeId) (cause : ℕ) → cause < 256
    → ((row t).monitor ≡ false) ⊎ (cause % 128 ≡ 108) → is_passed_on t cause ≡ false
stays t cause small (inl none) = rw none refl
stays t cause small (inr unknown) = go (row t).monitor (cause == 108) refl
  where
    tested : (cause == 108) ≡ false → (cause == 236) ≡ true
    tested plain =
        let other = eqb-false cause 108 plain in
        eq-eqb cause 236 (omega (arith, other, unknown, small))

    go : (m a : Bool) → (cause == 108) ≡ a
        → (m && not a && not (cause == 236)) ≡ false
    go false a e = refl
    go true true e = refl
    go true false e = ap (λ (b : Bool). not b) (tested e)

pub passed : (s : Sizes) (u : AsduValue) (xs : List ℕ) → IsAsdu s u xs → (row u.kind).monitor ≡ true
    → (u.cause % 128 ≡ 108 → ⊥) → monitor_objects_of s xs ≡ value_objects u
passed s u xs is monitor other =
    monitor_objects_of-IsAsdu s u xs is
    ∙ ap (λ (b : Bool). only_if b (value_objects u)) (passes u.kind u.cause monitor other)

pub kept_back : (s : Sizes) (u : AsduValue) (xs : List ℕ) → IsAsdu s u xs
    → ((row u.kind).monitor ≡ false) ⊎ (u.cause % 128 ≡ 108) → monitor_objects_of s xs ≡ []
kept_back s u xs is why =
    monitor_objects_of-IsAsdu s u xs is
    ∙ ap (λ (b : Bool). only_if b (value_objects u)) (stays u.kind u.cause is.value.cause why)
