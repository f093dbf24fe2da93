use Rattle.std.proofs.Common.{◌≡◌, ℕ, [], ◌∷◌, ◌++◌, List, length, refl, ap, ◌∙◌, arith}
use Rattle.std.specs.Prelude.{slice_index}
use Rattle.asdu.proofs.writing.append_content.Goals as goal

single : (xs : List ℕ) → length xs ≡ 1 → slice_index xs 0 ∷ [] ≡ xs
single [] one = absurd (omega arith)
single (x ∷ []) one = refl
single (x ∷ y ∷ xs) one = absurd (omega arith)

pub returns-then-octets-eq1 : goal.returns-then-octets-eq1
returns-then-octets-eq1 g c =
    let one : length c.args.octets.now ≡ 1 = omega arith in
    c.push.ensures.items
    ∙ ap (λ (xs : List ℕ). c.args.out.now.items ++ xs) (single c.args.octets.now one)
