-- The worked examples hold, and the bits of formats distinguish them.
use Rattle.std.proofs.Common.{◌≡◌, ℕ, ◌%◌, refl, rules}
use Rattle.std.specs.List.{AllByRecursion}
use Rattle.apci.specs.Examples.{IsSpelledSo, IsRefusedSo}
use Rattle.apci.specs.Examples.{spelling_examples, refusal_examples}

pub spellings_hold : AllByRecursion IsSpelledSo spelling_examples
spellings_hold = (
  (tt, refl),
  (
    (tt, refl),
    (
      (tt, refl),
      (
        (tt, refl),
        (
          (tt, refl),
          (
            (tt, refl),
            (
              (search rules, refl),
              ((search rules, refl), ((search rules, refl), ((search rules, refl), tt))),
            ),
          ),
        ),
      ),
    ),
  ),
)

pub refusals_hold : AllByRecursion IsRefusedSo refusal_examples
refusals_hold =
    (refl, (refl, (refl, (refl, (refl, (refl, (refl, (refl, (refl, (refl, (refl, tt)))))))))))
