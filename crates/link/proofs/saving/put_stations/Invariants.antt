use Rattle.std.proofs.Common.{◌≡◌, ◌++◌, take}
use Rattle.std.specs.List.{AllByRecursion}
use Rattle.link.specs.Saved.{lines_of, FitsSavedStation}
use Rattle.link.proofs.saving.put_stations.Given as goal

abbrev pub invariant-loop-station : goal.invariant-loop-station
invariant-loop-station g l =
    (g.S.Sheet.written l.sheet ≡ g.S.Sheet.written l.fn.sheet
    ++ lines_of (take l.station-index l.stations))
    × AllByRecursion FitsSavedStation (take l.station-index l.stations)
