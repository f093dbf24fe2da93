use Rattle.sim.proofs.ReceivingLemmas.{ReceivedSoFar}
use Rattle.sim.proofs.receiving.receive_all.Given as goal

abbrev pub invariant-loop-station : goal.invariant-loop-station
invariant-loop-station l = ReceivedSoFar l.octets l.initial.stations l.station-index l.answer
    l.stations
