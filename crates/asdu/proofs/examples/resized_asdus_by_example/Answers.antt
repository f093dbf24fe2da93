use Rattle.std.proofs.Common.{refl}
use Rattle.asdu.proofs.examples.resized_asdus_by_example.Goals as goal

pub returns-clause-smaller : goal.returns-clause-smaller
returns-clause-smaller c = refl

pub returns-clause-larger : goal.returns-clause-larger
returns-clause-larger c = refl

pub returns-clause-sequence : goal.returns-clause-sequence
returns-clause-sequence c = refl

pub returns-clause-originator : goal.returns-clause-originator
returns-clause-originator c = refl
