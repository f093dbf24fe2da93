use Rattle.link.proofs.Repeated.{again, up, once}
use Rattle.link.proofs.laws.at_once.repeats_are_as_many_as_set.Goals as goal

pub returns-clause-again : goal.returns-clause-again
returns-clause-again c = again

pub returns-clause-up : goal.returns-clause-up
returns-clause-up c = up

pub returns-clause-once : goal.returns-clause-once
returns-clause-once c = once
