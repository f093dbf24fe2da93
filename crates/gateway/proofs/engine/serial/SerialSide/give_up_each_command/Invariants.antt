use Rattle.std.proofs.Common.{◌≡◌, true, length}
use Rattle.link.specs.Leave.{is_polling}
use Rattle.gateway.specs.Carried.{commands_given_up_upto}
use Rattle.gateway.proofs.engine.serial.SerialSide.give_up_each_command.Given as goal

abbrev pub invariant-loop-station : goal.invariant-loop-station
invariant-loop-station l = record {
  state : l.self ≡ commands_given_up_upto l.station l.fn.self;
  count : length l.self.line.stations ≡ length l.fn.self.line.stations;
  polls : is_polling l.self.line ≡ true → is_polling l.fn.self.line ≡ true;
}
