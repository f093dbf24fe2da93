use Rattle.link.proofs.Preceding.{all_first}
use Rattle.link.proofs.laws.precedence.commands_go_before_polls.Goals as goal

pub returns : goal.returns
returns c = all_first
