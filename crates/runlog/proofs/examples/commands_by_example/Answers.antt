use Rattle.std.proofs.Common.{refl}
use Rattle.std.specs.Fmt.{digits}
use Rattle.elements.specs.Names.{report_name, other_name}
use Rattle.elements.specs.Types.{type_of}
use Rattle.runlog.proofs.examples.commands_by_example.Goals as goal

pub returns-clause-orders : goal.returns-clause-orders
returns-clause-orders c = (refl, refl, refl, refl, refl, refl, refl)

pub returns-clause-replies : goal.returns-clause-replies
returns-clause-replies c = (refl, refl, refl, refl, refl, refl, refl)

pub returns-clause-words : goal.returns-clause-words
unfolding digits type_of report_name other_name
returns-clause-words c = (refl, refl, refl, refl, refl, refl, refl, refl)

pub returns-clause-gathered : goal.returns-clause-gathered
returns-clause-gathered c = refl
