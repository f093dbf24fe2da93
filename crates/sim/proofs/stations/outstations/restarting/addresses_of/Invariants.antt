use Rattle.std.specs.List.{AllByRecursion}
use Rattle.link.specs.Requests.{FitsAddress}
use Rattle.sim.proofs.stations.outstations.restarting.addresses_of.Given as goal

abbrev pub invariant-loop-index : goal.invariant-loop-index
invariant-loop-index l = AllByRecursion (FitsAddress l.fn.config.line.link) l.all.items
