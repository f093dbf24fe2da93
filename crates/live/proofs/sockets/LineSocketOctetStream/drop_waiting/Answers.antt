use Rattle.live.proofs.Drops.{dropped_from}
use Rattle.live.proofs.sockets.LineSocketOctetStream.drop_waiting.Goals as goal

pub returns-clause-drops : goal.returns-clause-drops
returns-clause-drops g c = dropped_from _ _ _ _ c.self.view_is c.drop_waiting.ensures
