use Rattle.live.proofs.Ticks.{briefly}
use Rattle.live.proofs.laws.looks_for_an_event_begin_within_100_ms.Goals as goal

pub returns : goal.returns
returns c = briefly
