use Rattle.live.proofs.Redials.{asked_first, asked_later, closed_silent, octets_end_silence}
use Rattle.live.proofs.Redials.{over_closed}
use Rattle.live.proofs.laws.tries.a_stream_that_gives_nothing_is_closed.Goals as goal

pub returns-clause-over : goal.returns-clause-over
returns-clause-over c = over_closed

pub returns-clause-closed : goal.returns-clause-closed
returns-clause-closed c = closed_silent

pub returns-clause-octets : goal.returns-clause-octets
returns-clause-octets c = octets_end_silence

pub returns-clause-first : goal.returns-clause-first
returns-clause-first c = asked_first

pub returns-clause-counted : goal.returns-clause-counted
returns-clause-counted c = asked_later
