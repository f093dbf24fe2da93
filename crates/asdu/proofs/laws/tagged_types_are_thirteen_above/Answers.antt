use Rattle.asdu.proofs.WorkedExamples.{tags_hold}
use Rattle.asdu.proofs.laws.tagged_types_are_thirteen_above.Goals as goal

pub returns : goal.returns
returns c = tags_hold
