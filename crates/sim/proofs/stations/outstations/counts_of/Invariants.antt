use Rattle.std.proofs.Common.{◌≡◌}
use Rattle.sim.specs.Exchanges.{first_counts}
use Rattle.sim.proofs.stations.outstations.counts_of.Given as goal

abbrev pub invariant-loop-station : goal.invariant-loop-station
invariant-loop-station l = l.counts.items ≡ first_counts l.station l.script
