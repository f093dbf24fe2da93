use Rattle.gateway.proofs.Ending.{answers_go_out}
use Rattle.gateway.proofs.laws.going_out.own_answers_go_out.Goals as goal

pub returns : goal.returns
returns c = answers_go_out c.commands_keep_the_rules.ensures
