use Rattle.std.proofs.Common.{◌≡◌, ◌++◌, map, take, drop}
use Rattle.link.specs.Carried.{station_doubted}
use Rattle.link.proofs.master.carrying.doubt_all.Given as goal

abbrev pub invariant-loop-station : goal.invariant-loop-station
invariant-loop-station l =
    take l.station-index l.stations ++ map station_doubted (drop l.station-index l.stations)
    ≡ map station_doubted l.fn.stations
