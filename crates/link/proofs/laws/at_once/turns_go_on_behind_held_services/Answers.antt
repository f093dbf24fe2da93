use Rattle.link.proofs.BehindHeld.{all_go_on}
use Rattle.link.proofs.laws.at_once.turns_go_on_behind_held_services.Goals as goal

pub returns : goal.returns
returns c = all_go_on
