use Rattle.std.proofs.Common.{◌≡◌, take, drop}
use Rattle.runlog.specs.Traffic.{first_line, behind}
use Rattle.runlog.proofs.traffic.traffic_line.Given as goal

abbrev pub invariant-loop-station : goal.invariant-loop-station
invariant-loop-station l =
    behind (take l.station-index l.traffic) (first_line l.now (drop l.station-index l.traffic))
    ≡ first_line l.now l.fn.traffic
