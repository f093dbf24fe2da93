use Rattle.runlog.proofs.Gatherings.{apart, counted, logged}
use Rattle.runlog.proofs.laws.what_is_gathered_is_logged_or_counted.Goals as goal

pub returns-clause-apart : goal.returns-clause-apart
returns-clause-apart c = λ g calls. apart calls g

pub returns-clause-counted : goal.returns-clause-counted
returns-clause-counted c = λ g calls small. counted calls g small

pub returns-clause-last : goal.returns-clause-last
returns-clause-last c = logged
