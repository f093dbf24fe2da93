use Rattle.std.proofs.Common.{append_assoc, ◌∙◌}
use Rattle.link.specs.Restored.{primary_lines}
use Rattle.command.specs.Restored.{commands_lines}
use Rattle.gateway.proofs.ReadBack.{serial_back}
use Rattle.gateway.proofs.engine.serial.SerialSide.read_state.Goals as goal

pub returns-clause-back : goal.returns-clause-back
returns-clause-back g c = λ s rest savable has none e.
    let k = c.in_ok-counts.ensures.back s.counts _ e in
    let m = c.in_ok-master.ensures.back s.line _ savable.line has.line has.stations
    (k.1 ∙ append_assoc (primary_lines s.line) (commands_lines s.commands) rest) in
    let t = c.in_ok-commands.ensures.back s.commands rest savable.commands has.commands m.1 in (
      serial_back c.in_ok-master.master c.in_ok-commands.commands c.in_ok-counts.counts s m.0 t.0
          k.0
          none,
      t.1,
    )
