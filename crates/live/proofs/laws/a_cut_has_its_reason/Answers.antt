use Rattle.live.proofs.Cuts.{lost_by}
use Rattle.live.proofs.Reasons.{reasoned, was_due}
use Rattle.live.proofs.laws.a_cut_has_its_reason.Goals as goal

pub returns-clause-gone : goal.returns-clause-gone
returns-clause-gone c old new event buf l = (reasoned old new event buf l).gone

pub returns-clause-due : goal.returns-clause-due
returns-clause-due c old new event buf l = (reasoned old new event buf l).due

pub returns-clause-others : goal.returns-clause-others
returns-clause-others c old new event buf l = (reasoned old new event buf l).others

pub returns-clause-lost : goal.returns-clause-lost
returns-clause-lost c = lost_by

pub returns-clause-events : goal.returns-clause-events
returns-clause-events c = was_due
