use Rattle.std.proofs.Common.{refl}
use Rattle.link.proofs.examples.requests_by_example.Goals as goal

pub returns-clause-frames : goal.returns-clause-frames
returns-clause-frames c = (refl, refl, refl, refl, refl, refl, refl, refl)

pub returns-clause-readings : goal.returns-clause-readings
returns-clause-readings c = (refl, refl, refl, refl, refl, refl)

pub returns-clause-strangers : goal.returns-clause-strangers
returns-clause-strangers c = (refl, refl, refl, refl)

pub returns-clause-others : goal.returns-clause-others
returns-clause-others c = (refl, refl, refl, refl, refl, refl, refl, refl, refl, refl)
