use Rattle.std.proofs.Common.{refl}
use Rattle.sim.proofs.examples.losses_by_example.Goals as goal

pub returns-clause-fates : goal.returns-clause-fates
returns-clause-fates c = (refl, refl, refl, refl)

pub returns-clause-answers : goal.returns-clause-answers
returns-clause-answers c = (refl, refl, refl, refl, refl, refl, refl, refl, refl)

pub returns-clause-numbers : goal.returns-clause-numbers
returns-clause-numbers c = (refl, refl, refl, refl, refl, refl, refl, refl)

pub returns-clause-calls : goal.returns-clause-calls
returns-clause-calls c = (refl, refl, refl, refl)

pub returns-clause-reports : goal.returns-clause-reports
returns-clause-reports c = (refl, refl, refl, refl)

pub returns-clause-waiting : goal.returns-clause-waiting
returns-clause-waiting c = λ plan. (refl, refl, refl, refl, refl, refl)
