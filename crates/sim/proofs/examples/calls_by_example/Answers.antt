use Rattle.std.proofs.Common.{refl}
use Rattle.sim.proofs.examples.calls_by_example.Goals as goal

pub returns-clause-events : goal.returns-clause-events
returns-clause-events c = (refl, refl, refl, refl, refl, refl, refl, refl, refl, refl)

pub returns-clause-lasts : goal.returns-clause-lasts
returns-clause-lasts c = (refl, refl, refl, refl, refl)

pub returns-clause-counts : goal.returns-clause-counts
returns-clause-counts c = (refl, refl, refl, λ plan. refl)

pub returns-clause-centre : goal.returns-clause-centre
returns-clause-centre c = (refl, refl, refl, refl, refl, refl, refl, refl, refl, refl)

pub returns-clause-reopened : goal.returns-clause-reopened
returns-clause-reopened c = (refl, refl, refl, refl, refl)

pub returns-clause-turned_round : goal.returns-clause-turned_round
returns-clause-turned_round c = refl
