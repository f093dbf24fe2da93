use Rattle.std.proofs.Common.{refl}
use Rattle.record.proofs.examples.texts_are_read_by_example.Goals as goal

pub returns-clause-events : goal.returns-clause-events
returns-clause-events c = refl

pub returns-clause-actions : goal.returns-clause-actions
returns-clause-actions c = refl

pub returns-clause-none : goal.returns-clause-none
returns-clause-none c = (refl, refl, refl)
