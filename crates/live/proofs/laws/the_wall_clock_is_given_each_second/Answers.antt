use Rattle.live.proofs.Walls.{each_second, second_apart, second_due, was_given}
use Rattle.live.proofs.laws.the_wall_clock_is_given_each_second.Goals as goal

pub returns-clause-second : goal.returns-clause-second
returns-clause-second c = each_second

pub returns-clause-given : goal.returns-clause-given
returns-clause-given c = was_given

pub returns-clause-apart : goal.returns-clause-apart
returns-clause-apart c = second_apart

pub returns-clause-due : goal.returns-clause-due
returns-clause-due c = second_due
