use Rattle.std.proofs.Common.{refl}
use Rattle.link.proofs.examples.answers_by_example.Goals as goal

pub returns-clause-status : goal.returns-clause-status
returns-clause-status c = (refl, refl, refl, refl, refl, refl, refl)

pub returns-clause-reset : goal.returns-clause-reset
returns-clause-reset c = (refl, refl, refl, refl, refl, refl, refl)

pub returns-clause-class1 : goal.returns-clause-class1
returns-clause-class1 c = (refl, refl, refl, refl, refl, refl, refl, refl)

pub returns-clause-class2 : goal.returns-clause-class2
returns-clause-class2 c = (refl, refl, refl, refl, refl)

pub returns-clause-command : goal.returns-clause-command
returns-clause-command c = (refl, refl, refl, refl, refl, refl, refl)

pub returns-clause-strangers : goal.returns-clause-strangers
returns-clause-strangers c = (refl, refl, refl, refl, refl, refl)

pub returns-clause-flags : goal.returns-clause-flags
returns-clause-flags c = (refl, refl, refl, refl, refl, refl)

pub returns-clause-stations : goal.returns-clause-stations
returns-clause-stations c = (refl, refl, refl, refl, refl, refl, refl, refl)

pub returns-clause-outcome_for : goal.returns-clause-outcome_for
returns-clause-outcome_for c = (refl, refl, refl, refl, refl, refl, refl, refl)

pub returns-clause-gaps : goal.returns-clause-gaps
returns-clause-gaps c = (refl, refl, refl, refl)
