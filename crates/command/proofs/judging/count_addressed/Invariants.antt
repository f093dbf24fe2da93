use Rattle.std.proofs.Common.{◌≡◌, ◌≤◌, ◌+◌, count_by, drop}
use Rattle.command.specs.Stations.{is_addressed}
use Rattle.command.proofs.judging.count_addressed.Given as goal

abbrev pub invariant-loop-station : goal.invariant-loop-station
invariant-loop-station l = record {
  counted : l.count + count_by (is_addressed l.command) (drop l.station-index l.stations)
      ≡ count_by (is_addressed l.command) l.stations;
  few : l.count ≤ l.station-index;
}
