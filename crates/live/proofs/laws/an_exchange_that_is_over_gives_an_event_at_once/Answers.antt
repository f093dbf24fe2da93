use Rattle.live.proofs.Ticks.{over}
use Rattle.live.proofs.laws.an_exchange_that_is_over_gives_an_event_at_once.Goals as goal

pub returns : goal.returns
returns c = over
