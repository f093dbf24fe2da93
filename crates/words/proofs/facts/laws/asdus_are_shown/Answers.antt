use Rattle.std.proofs.Common.{◌≡◌, ◌+◌, ◌==◌, ap, arith, refl, rules, ℕ, Bool, false, List, [], ◌∷◌}
use Rattle.std.proofs.Common.{◌++◌, codes}
use Rattle.std.specs.Fmt.{decimal}
use Rattle.std.proofs.lemmas.Bool.Decides.{nat_tests}
use Rattle.std.specs.Prelude.{if◌then◌else◌}
use Rattle.asdu.specs.Asdu.{AsduValue, IsAsdu}
use Rattle.asdu.specs.declared.sizes.Sizes.{Sizes}
use Rattle.asdu.proofs.Related.{refusal-IsAsdu, type_of-IsAsdu, value_at-IsAsdu}
use Rattle.words.specs.UnitFacts.{asdu_lines, condition_by, unit_lines, unit_condition}
use Rattle.words.specs.declared.facts.condition.Condition.TheVariants as condition
use Rattle.words.proofs.facts.laws.asdus_are_shown.Goals as goal

lines-IsAsdu : (s : Sizes) (u : AsduValue) (xs : List ℕ) → IsAsdu s u xs
    → unit_lines s xs ≡ asdu_lines u
lines-IsAsdu s u [] h = search rules
lines-IsAsdu s u (x ∷ xs) h =
    let none = refusal-IsAsdu s u (x ∷ xs) h in
    let kind = type_of-IsAsdu s u (x ∷ xs) h in
    rw (none, kind) (ap asdu_lines (value_at-IsAsdu s u (x ∷ xs) h))

condition-IsAsdu : (s : Sizes) (u : AsduValue) (xs : List ℕ) → IsAsdu s u xs
    → unit_condition s xs ≡ condition.Good
condition-IsAsdu s u [] h = refl
condition-IsAsdu s u (x ∷ xs) h = ap condition_by (refusal-IsAsdu s u (x ∷ xs) h)

pub returns-clause-asdus : goal.returns-clause-asdus
returns-clause-asdus c = λ s u octets h.
    (lines-IsAsdu s u octets h, condition-IsAsdu s u octets h)

pub returns-clause-behind : goal.returns-clause-behind
returns-clause-behind c = λ s n len frame apdu. (refl, refl, refl, refl)

pub returns-clause-rest : goal.returns-clause-rest
returns-clause-rest c = λ n one.
    let some : (n + 1 == 0) ≡ false = grind (arith, nat_tests) in (
      ap (λ (b : Bool). if b then [] else codes "rest " ++ decimal (n + 1) ++ 10 ∷ []) some,
      ap (λ (b : Bool). if b then one else condition.Faulty) some,
      refl,
    )

pub returns-clause-moments : goal.returns-clause-moments
returns-clause-moments c = λ ms. refl
