use Rattle.std.proofs.Common.{◌≡◌, ◌+◌, drop}
use Rattle.command.specs.Stations.{station_number}
use Rattle.command.proofs.keeping.station_number.Given as goal

abbrev pub invariant-loop-i : goal.invariant-loop-i
invariant-loop-i l = record {
  from_here : l.i + station_number l.ca (drop l.i l.stations) ≡ station_number l.ca l.stations;
}
