use Rattle.std.proofs.Common.{◌≡◌, length}
use Rattle.gateway.specs.Carried.{links_started_upto}
use Rattle.link.specs.Carried.{released}
use Rattle.gateway.proofs.engine.serial.SerialSide.start_links.Given as goal

abbrev pub invariant-loop-station : goal.invariant-loop-station
invariant-loop-station l = record {
  state : l.self ≡ links_started_upto l.fn.goes_on l.fn.before l.fn.now l.station
      (record l.fn.self { line = released l.fn.self.line });
  count : length l.self.line.stations ≡ length l.fn.self.line.stations;
}
