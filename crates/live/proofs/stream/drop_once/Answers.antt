use Rattle.live.proofs.Drops.{drops_once}
use Rattle.live.proofs.stream.drop_once.Goals as goal

pub returns-clause-drops : goal.returns-clause-drops
returns-clause-drops g c = drops_once _ _ _ _ c.receive_once.ensures.receives
