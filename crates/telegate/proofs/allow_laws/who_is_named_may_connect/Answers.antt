use Rattle.telegate.proofs.AllowLaw.{lets_anyone, lets_each, lets_named, lets_nobody}
use Rattle.telegate.proofs.allow_laws.who_is_named_may_connect.Goals as goal

pub returns-clause-anyone : goal.returns-clause-anyone
returns-clause-anyone c = lets_anyone

pub returns-clause-nobody : goal.returns-clause-nobody
returns-clause-nobody c = lets_nobody

pub returns-clause-named : goal.returns-clause-named
returns-clause-named c = lets_named

pub returns-clause-each : goal.returns-clause-each
returns-clause-each c = lets_each

pub returns-clause-written : goal.returns-clause-written
returns-clause-written c word address writes = (writes.written, writes.text, writes.same)
