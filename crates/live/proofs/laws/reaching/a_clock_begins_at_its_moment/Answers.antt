use Rattle.live.proofs.Clocks.{begins}
use Rattle.live.proofs.laws.reaching.a_clock_begins_at_its_moment.Goals as goal

pub returns : goal.returns
returns c = begins
