use Rattle.live.proofs.Redials.{asks_on, begins_at_once, begins_later, drops_away, puts_away}
use Rattle.live.proofs.Redials.{drops_there, puts_there, reached_new, waits_undue}
use Rattle.live.proofs.Tries.{away_pauses, away_quiet, looks_alone, looks_there}
use Rattle.live.proofs.laws.tries.a_stream_that_is_away_is_tried_when_due.Goals as goal

pub returns-clause-first : goal.returns-clause-first
returns-clause-first c = begins_at_once

pub returns-clause-later : goal.returns-clause-later
returns-clause-later c = begins_later

pub returns-clause-undue : goal.returns-clause-undue
returns-clause-undue c = waits_undue

pub returns-clause-asked : goal.returns-clause-asked
returns-clause-asked c = asks_on

pub returns-clause-quiet : goal.returns-clause-quiet
returns-clause-quiet c = away_quiet

pub returns-clause-paused : goal.returns-clause-paused
returns-clause-paused c = away_pauses

pub returns-clause-put : goal.returns-clause-put
returns-clause-put c = puts_away

pub returns-clause-dropped : goal.returns-clause-dropped
returns-clause-dropped c = drops_away

pub returns-clause-there : goal.returns-clause-there
returns-clause-there c = looks_there

pub returns-clause-alone : goal.returns-clause-alone
returns-clause-alone c = looks_alone

pub returns-clause-written : goal.returns-clause-written
returns-clause-written c = puts_there

pub returns-clause-waiting : goal.returns-clause-waiting
returns-clause-waiting c = drops_there

pub returns-clause-fresh : goal.returns-clause-fresh
returns-clause-fresh c = reached_new
