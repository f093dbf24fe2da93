use Rattle.std.proofs.Common.{refl}
use Rattle.runlog.proofs.examples.moments_by_example.Goals as goal

pub returns-clause-line : goal.returns-clause-line
returns-clause-line c = refl

pub returns-clause-causes : goal.returns-clause-causes
returns-clause-causes c = refl

pub returns-clause-flicker : goal.returns-clause-flicker
returns-clause-flicker c = refl

pub returns-clause-listener : goal.returns-clause-listener
returns-clause-listener c = (refl, refl, refl, refl)

pub returns-clause-connection : goal.returns-clause-connection
returns-clause-connection c = (refl, refl, refl)

pub returns-clause-queue : goal.returns-clause-queue
returns-clause-queue c = (refl, refl, refl)

pub returns-clause-looks : goal.returns-clause-looks
returns-clause-looks c = λ w. (refl, refl)

pub returns-clause-counts : goal.returns-clause-counts
returns-clause-counts c = λ w c. (refl, refl)
