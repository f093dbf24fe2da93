use Rattle.live.proofs.Redials.{drop_waits, octets_wait, put_waits, quiet_waits, reached_waits}
use Rattle.live.proofs.Redials.{still_waits}
use Rattle.live.proofs.laws.tries.tries_lie_farther_apart_while_nothing_comes.Goals as goal

pub returns-clause-reached : goal.returns-clause-reached
returns-clause-reached c = reached_waits

pub returns-clause-away : goal.returns-clause-away
returns-clause-away c = still_waits

pub returns-clause-octets : goal.returns-clause-octets
returns-clause-octets c = octets_wait

pub returns-clause-quiet : goal.returns-clause-quiet
returns-clause-quiet c = quiet_waits

pub returns-clause-put : goal.returns-clause-put
returns-clause-put c = put_waits

pub returns-clause-dropped : goal.returns-clause-dropped
returns-clause-dropped c = drop_waits
