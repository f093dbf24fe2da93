use Rattle.std.proofs.Common.{◌∙◌}
use Rattle.gateway.proofs.Carrying.{next}
use Rattle.gateway.proofs.engine.serial.SerialSide.give_up_each_command.Goals as goal

pub loop-station-preserved : goal.loop-station-preserved
loop-station-preserved c =
    let loop = c.loop-station.invariant in
    record {
      state = next c.loop-station.station _ _ _ loop.state c.give_up_command.ensures.state;
      count = c.give_up_command.ensures.number ∙ loop.count;
      polls = λ e. loop.polls (c.give_up_command.ensures.polls e);
    }
