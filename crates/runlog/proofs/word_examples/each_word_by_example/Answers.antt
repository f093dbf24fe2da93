use Rattle.std.proofs.Common.{refl}
use Rattle.std.specs.Fmt.{digits}
use Rattle.runlog.proofs.word_examples.each_word_by_example.Goals as goal

pub returns-clause-values : goal.returns-clause-values
unfolding digits
returns-clause-values c = (refl, refl, refl, refl, refl, refl, refl)

pub returns-clause-fates : goal.returns-clause-fates
unfolding digits
returns-clause-fates c = (refl, refl, refl, refl, refl, refl, refl)

pub returns-clause-states : goal.returns-clause-states
unfolding digits
returns-clause-states c = (
  refl,
  refl,
  refl,
  refl,
  refl,
  refl,
  λ why place cause. rw (place, cause) refl,
  refl,
  refl,
  refl,
  refl,
  refl,
)
