use Rattle.std.proofs.Common.{take}
use Rattle.std.specs.List.{All}
use Rattle.link.specs.Holding.{FitsStation}
use Rattle.link.proofs.master.restoring.stations_fit.Given as goal

abbrev pub invariant-loop-station : goal.invariant-loop-station
invariant-loop-station l = All (FitsStation l.size) (take l.station-index l.stations)
