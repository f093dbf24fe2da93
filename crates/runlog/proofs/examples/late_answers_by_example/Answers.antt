use Rattle.std.proofs.Common.{refl}
use Rattle.std.specs.Fmt.{digits}
use Rattle.ft12.specs.Fronts.{front_of}
use Rattle.runlog.specs.Watching.{counts_noted}
use Rattle.runlog.proofs.examples.late_answers_by_example.Goals as goal

pub returns-clause-spoilt : goal.returns-clause-spoilt
unfolding counts_noted
returns-clause-spoilt c w = refl

pub returns-clause-kinds : goal.returns-clause-kinds
unfolding front_of
returns-clause-kinds c = (refl, refl, refl, refl, refl, refl, refl)

pub returns-clause-mirrors : goal.returns-clause-mirrors
unfolding counts_noted
returns-clause-mirrors c w = refl

pub returns-clause-words : goal.returns-clause-words
unfolding digits
returns-clause-words c = (refl, refl, refl, refl, refl, refl, refl)
