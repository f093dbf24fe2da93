use Rattle.live.proofs.Told.{at_look, in_turn, no_more}
use Rattle.live.proofs.laws.arriving.that_nobody_can_be_accepted_is_told_once.Goals as goal

pub returns-clause-again : goal.returns-clause-again
returns-clause-again c = no_more

pub returns-clause-in_turn : goal.returns-clause-in_turn
returns-clause-in_turn c = in_turn

pub returns-clause-look : goal.returns-clause-look
returns-clause-look c = at_look
