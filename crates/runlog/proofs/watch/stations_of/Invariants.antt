use Rattle.std.proofs.Common.{◌≡◌, ◌++◌, drop}
use Rattle.runlog.specs.Watching.{new_stations}
use Rattle.runlog.proofs.watch.stations_of.Given as goal

abbrev pub invariant-loop-station : goal.invariant-loop-station
invariant-loop-station l =
    l.stations.items ++ new_stations l.tries (drop l.station-index l.config.stations) ≡
    new_stations l.tries l.config.stations
