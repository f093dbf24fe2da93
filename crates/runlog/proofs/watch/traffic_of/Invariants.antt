use Rattle.std.proofs.Common.{◌≡◌, ◌++◌, drop}
use Rattle.runlog.specs.Traffic.{new_traffics}
use Rattle.runlog.proofs.watch.traffic_of.Given as goal

abbrev pub invariant-loop-station : goal.invariant-loop-station
invariant-loop-station l = l.traffic.items ++ new_traffics (drop l.station-index l.config.stations)
    ≡
    new_traffics l.config.stations
