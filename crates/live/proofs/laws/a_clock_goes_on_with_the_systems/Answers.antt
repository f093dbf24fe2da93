use Rattle.live.proofs.Clocks.{goes_on, read_so, shown_so, shows}
use Rattle.live.proofs.laws.a_clock_goes_on_with_the_systems.Goals as goal

pub returns-clause-goes_on : goal.returns-clause-goes_on
returns-clause-goes_on c = goes_on

pub returns-clause-wall : goal.returns-clause-wall
returns-clause-wall c = shows

pub returns-clause-read : goal.returns-clause-read
returns-clause-read c = read_so

pub returns-clause-wall_read : goal.returns-clause-wall_read
returns-clause-wall_read c = shown_so
