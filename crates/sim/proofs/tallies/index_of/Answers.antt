use Rattle.sim.proofs.Places.{place_first}
use Rattle.sim.proofs.tallies.index_of.Goals as goal

pub loop-index-init : goal.loop-index-init
loop-index-init c = place_first c.args.address c.args.stations.now
