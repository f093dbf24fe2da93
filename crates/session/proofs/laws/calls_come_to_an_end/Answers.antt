use Rattle.session.proofs.Ordered.{taken_in_time}
use Rattle.session.proofs.laws.calls_come_to_an_end.Goals as goal

pub returns-clause-in_time_take : goal.returns-clause-in_time_take
returns-clause-in_time_take c = taken_in_time
