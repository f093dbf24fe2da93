use Rattle.sim.specs.Replying.{RepliesEach}
use Rattle.sim.proofs.stations.outstations.Outstations.reply_all.Given as goal

abbrev pub invariant-loop-station : goal.invariant-loop-station
invariant-loop-station l = RepliesEach l.station l.initial.self l.self
