use Rattle.live.proofs.WaitsTimed.{looks, still}
use Rattle.live.proofs.laws.looks_at_the_line_are_timed_by_the_clock.Goals as goal

pub returns-clause-looked : goal.returns-clause-looked
returns-clause-looked c = looks

pub returns-clause-wall : goal.returns-clause-wall
returns-clause-wall c = still
