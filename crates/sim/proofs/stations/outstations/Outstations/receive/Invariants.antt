use Rattle.std.proofs.Common.{length, true}
use Rattle.sim.proofs.RequestsReceived.{IsReceiving}
use Rattle.sim.proofs.stations.outstations.Outstations.receive.Given as goal

abbrev pub invariant-frames : goal.invariant-frames
invariant-frames g l =
    IsReceiving l.initial.self l.octets l.left (g.S.OctetStream.history l.initial.stream)
    (g.S.OctetStream.history l.stream) l.self true

abbrev pub decreases-frames : goal.decreases-frames
decreases-frames g l = length l.left
