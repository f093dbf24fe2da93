use Rattle.command.proofs.Ruled.{first_rule}
use Rattle.command.proofs.laws.judgement_is_the_first_rule_that_applies.Goals as goal

pub returns : goal.returns
returns c = first_rule
