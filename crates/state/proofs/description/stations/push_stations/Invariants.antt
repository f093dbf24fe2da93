use Rattle.std.proofs.Common.{◌≡◌, ◌+◌, ◌++◌, length, string_bytes}
use Rattle.state.specs.StationLines as spec
use Rattle.state.proofs.description.stations.push_stations.Given as goal

abbrev pub invariant-loop-left : goal.invariant-loop-left
invariant-loop-left l = record {
  text : string_bytes l.text ++ spec.station_lines l.line l.station l.left
      ≡ string_bytes l.initial.text ++ spec.station_lines l.line 0 l.line.stations;
  place : l.station + length l.left ≡ length l.line.stations;
}

abbrev pub decreases-loop-left : goal.decreases-loop-left
decreases-loop-left l = length l.left
