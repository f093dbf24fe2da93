use Rattle.state.proofs.Histories.{waits_shortly}
use Rattle.state.proofs.laws.no_event_waits_for_a_second.Goals as goal

pub returns : goal.returns
returns c = waits_shortly
