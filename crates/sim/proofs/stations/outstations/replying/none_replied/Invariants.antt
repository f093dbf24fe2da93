use Rattle.std.proofs.Common.{◌≡◌}
use Rattle.sim.specs.Progress.{none_replied}
use Rattle.sim.proofs.stations.outstations.replying.none_replied.Given as goal

abbrev pub invariant-loop : goal.invariant-loop
invariant-loop l = l.all.items ≡ none_replied l.counter
