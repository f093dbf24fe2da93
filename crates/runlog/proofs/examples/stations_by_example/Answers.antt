use Rattle.std.proofs.Common.{refl}
use Rattle.runlog.proofs.examples.stations_by_example.Goals as goal

pub returns-clause-addresses : goal.returns-clause-addresses
returns-clause-addresses c = (refl, refl, refl)

pub returns-clause-askings : goal.returns-clause-askings
returns-clause-askings c = (refl, refl, refl, refl, refl, refl)

pub returns-clause-life : goal.returns-clause-life
returns-clause-life c = refl

pub returns-clause-start : goal.returns-clause-start
returns-clause-start c = refl

pub returns-clause-restarted : goal.returns-clause-restarted
returns-clause-restarted c = refl

pub returns-clause-unanswered : goal.returns-clause-unanswered
returns-clause-unanswered c = refl

pub returns-clause-others : goal.returns-clause-others
returns-clause-others c = (refl, refl, refl)
