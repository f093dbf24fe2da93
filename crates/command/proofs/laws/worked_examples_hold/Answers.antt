use Rattle.command.proofs.Examples.{octets_hold, rules_hold, selections_hold, lines_hold, tags_hold}
use Rattle.command.proofs.Examples.{mirrors_hold}
use Rattle.command.proofs.laws.worked_examples_hold.Goals as goal

pub returns-clause-octets : goal.returns-clause-octets
returns-clause-octets c = octets_hold

pub returns-clause-rules : goal.returns-clause-rules
returns-clause-rules c = rules_hold

pub returns-clause-selections : goal.returns-clause-selections
returns-clause-selections c = selections_hold

pub returns-clause-line : goal.returns-clause-line
returns-clause-line c = lines_hold

pub returns-clause-tags : goal.returns-clause-tags
returns-clause-tags c = tags_hold

pub returns-clause-mirrors : goal.returns-clause-mirrors
returns-clause-mirrors c = mirrors_hold
