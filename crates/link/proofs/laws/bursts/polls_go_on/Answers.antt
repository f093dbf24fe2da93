use Rattle.link.proofs.Bursting.{all_go_on}
use Rattle.link.proofs.laws.bursts.polls_go_on.Goals as goal

pub returns : goal.returns
returns c = all_go_on
