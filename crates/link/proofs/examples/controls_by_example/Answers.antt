use Rattle.std.proofs.Common.{refl}
use Rattle.link.proofs.examples.controls_by_example.Goals as goal

pub returns-clause-bits : goal.returns-clause-bits
returns-clause-bits c =
    (refl, refl, refl, refl, refl, refl, refl, refl, refl, refl, refl, refl, refl, refl, refl, refl)

pub returns-clause-primary : goal.returns-clause-primary
returns-clause-primary c = (refl, refl, refl, refl, refl, refl, refl, refl, refl)

pub returns-clause-secondary : goal.returns-clause-secondary
returns-clause-secondary c = (refl, refl, refl, refl, refl, refl, refl)
