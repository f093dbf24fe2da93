-- The worked examples hold.
use Rattle.std.proofs.Common.{refl}
use Rattle.std.specs.List.{AllByRecursion}
use Rattle.ft12.specs.Fronts.{front_of}
use Rattle.ft12.specs.Examples.{IsSpelledSo, IsRefusedSo, spelling_examples, refusal_examples}

pub spellings_hold : AllByRecursion IsSpelledSo spelling_examples
unfolding front_of
spellings_hold = (
  (refl, refl),
  (
    (refl, refl),
    (
      (refl, refl),
      ((refl, refl), ((refl, refl), ((refl, refl), ((refl, refl), ((refl, refl), tt))))),
    ),
  ),
)

pub refusals_hold : AllByRecursion IsRefusedSo refusal_examples
unfolding front_of
refusals_hold = (
  (refl, refl),
  (
    (refl, refl),
    (
      (refl, refl),
      (
        (refl, refl),
        (
          (refl, refl),
          (
            (refl, refl),
            ((refl, refl), ((refl, refl), ((refl, refl), ((refl, refl), ((refl, refl), tt))))),
          ),
        ),
      ),
    ),
  ),
)
