use Rattle.std.proofs.Common.{◌≡◌, ◌++◌, drop}
use Rattle.sim.specs.Lives.{begun_from}
use Rattle.sim.proofs.beginning.begin.Given as goal

abbrev pub invariant-loop-index : goal.invariant-loop-index
invariant-loop-index l = l.stations.items ++ begun_from l.size l.index l.script
    (drop l.index l.settings)
    ≡ begun_from l.size 0 l.script l.settings
