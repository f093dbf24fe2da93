use Rattle.std.proofs.Common.{◌≡◌, length}
use Rattle.gateway.specs.Carried.{stations_marked}
use Rattle.gateway.proofs.engine.carrying.mark_newcomers.Given as goal

abbrev pub invariant-loop-station : goal.invariant-loop-station
invariant-loop-station l = record {
  state : l.line ≡ record l.fn.line {
    stations = stations_marked l.seats l.station l.fn.line.stations;
  };
  count : length l.line.stations ≡ length l.fn.line.stations;
}
