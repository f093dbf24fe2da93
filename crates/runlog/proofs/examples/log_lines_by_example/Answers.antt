use Rattle.std.proofs.Common.{refl}
use Rattle.std.specs.Fmt.{digits}
use Rattle.runlog.proofs.examples.log_lines_by_example.Goals as goal

pub returns-clause-lines : goal.returns-clause-lines
unfolding digits
returns-clause-lines c = (refl, refl)

pub returns-clause-ends : goal.returns-clause-ends
unfolding digits
returns-clause-ends c = (refl, refl, refl, refl, refl, refl, refl, refl, refl, refl)

pub returns-clause-stations : goal.returns-clause-stations
unfolding digits
returns-clause-stations c = (refl, refl, refl, refl, refl, refl, refl, refl)

pub returns-clause-cuts : goal.returns-clause-cuts
returns-clause-cuts c = (refl, refl, refl)

pub returns-clause-closes : goal.returns-clause-closes
returns-clause-closes c = (refl, refl, refl, refl, refl, refl, refl)

pub returns-clause-troubles : goal.returns-clause-troubles
returns-clause-troubles c = (refl, refl, refl, refl, refl, refl)

pub returns-clause-counts : goal.returns-clause-counts
unfolding digits
returns-clause-counts c = refl
