use Rattle.std.proofs.Common.{◌≡◌, ◌++◌, drop}
use Rattle.std.specs.Prelude.{string_bytes}
use Rattle.sim.specs.Texts.{station_lines}
use Rattle.sim.proofs.text.push_stations.Given as goal

abbrev pub invariant-loop-index : goal.invariant-loop-index
invariant-loop-index l = string_bytes l.lines ++ station_lines l.directives l.index
    (drop l.index l.stations)
    ≡ string_bytes l.initial.lines ++ station_lines l.directives 0 l.stations
