use Rattle.elements.proofs.StandardTables.{tags_hold}
use Rattle.elements.proofs.laws.worked_examples_hold.Goals as goal

pub returns : goal.returns
returns c = tags_hold
