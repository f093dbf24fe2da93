use Rattle.std.proofs.Common.{refl}
use Rattle.record.proofs.audit.examples.record_lines_by_example.Goals as goal

pub returns-clause-lines : goal.returns-clause-lines
returns-clause-lines c = (refl, refl)

pub returns-clause-kinds : goal.returns-clause-kinds
returns-clause-kinds c = (refl, refl, refl, refl, refl, refl, refl, refl)

pub returns-clause-events : goal.returns-clause-events
returns-clause-events c = refl

pub returns-clause-differences : goal.returns-clause-differences
returns-clause-differences c = (refl, refl, refl, refl)

pub returns-clause-state : goal.returns-clause-state
returns-clause-state c = (refl, refl)
