use Rattle.std.proofs.Common.{◌≡◌, drop}
use Rattle.status.specs.Oldest.{come_from}
use Rattle.status.proofs.lookout.oldest.come_from.Given as goal

abbrev pub invariant-loop-station : goal.invariant-loop-station
invariant-loop-station l = come_from l.come (drop l.station-index l.traffic)
    ≡ come_from 0 l.traffic
