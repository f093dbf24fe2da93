use Rattle.std.proofs.Common.{refl}
use Rattle.link.proofs.examples.outstations_by_example.Goals as goal

pub returns-clause-starts : goal.returns-clause-starts
returns-clause-starts c = (refl, refl, refl, refl, refl, refl, refl, refl)

pub returns-clause-data : goal.returns-clause-data
returns-clause-data c = (refl, refl, refl, refl, refl, refl, refl)

pub returns-clause-commands : goal.returns-clause-commands
returns-clause-commands c = (refl, refl, refl)

pub returns-clause-counts : goal.returns-clause-counts
returns-clause-counts c = (refl, refl, refl, refl)

pub returns-clause-strangers : goal.returns-clause-strangers
returns-clause-strangers c = (refl, refl, refl, refl, refl, refl)
