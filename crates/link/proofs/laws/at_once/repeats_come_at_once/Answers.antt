use Rattle.link.proofs.Repeating.{all_repeat}
use Rattle.link.proofs.laws.at_once.repeats_come_at_once.Goals as goal

pub returns : goal.returns
returns c = all_repeat
