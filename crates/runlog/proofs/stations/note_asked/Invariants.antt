use Rattle.std.proofs.Common.{◌≡◌, ◌++◌, map, take, drop}
use Rattle.runlog.specs.Stations.{after_request}
use Rattle.runlog.proofs.stations.note_asked.Given as goal

abbrev pub invariant-loop-station : goal.invariant-loop-station
invariant-loop-station l =
    take l.station-index l.stations ++ map (after_request l.address l.asking l.now)
    (drop l.station-index l.stations)
    ≡ map (after_request l.address l.asking l.now) l.fn.stations
