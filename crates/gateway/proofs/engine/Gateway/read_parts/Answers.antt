use Rattle.std.proofs.Common.{rules, append_assoc, sym, ◌∙◌, ap}
use Rattle.gateway.specs.declared.settings.LineSettings.{LineSettings}
use Rattle.gateway.specs.Restored.{serial_lines, centre_lines}
use Rattle.gateway.proofs.ReadBack.{state_back, joined_between, said_joined}
use Rattle.gateway.proofs.engine.Gateway.read_parts.Goals as goal

pub returns-clause-back : goal.returns-clause-back
returns-clause-back g c = λ s rest savable has e.
    let k = c.in_ok-clock.ensures.back s _ e in
    let m = c.in_ok-serial.ensures.back s.serial _ savable.serial has.serial
    (savable.between.silent, savable.between.gap)
    (k.1 ∙ append_assoc (serial_lines s.serial) (centre_lines s.centre) rest) in
    let t = c.in_ok-centre.ensures.back s.centre rest savable.centre has.centre
    savable.between.arrived m.1 in
    state_back c.joined.result _ c.in_ok-clock.clock c.in_ok-serial.serial c.in_ok-centre.centre s _
    c.joined.ensures
    m.0 t.0 k.0 (ap (λ (l : LineSettings). l.sizes) c.line.ensures ∙ sym has.sizes) savable.places
    t.1

pub returns-clause-exact : goal.returns-clause-exact
returns-clause-exact g c =
    said_joined c.joined.result _ c.in_ok-clock.clock c.in_ok-serial.serial
    c.in_ok-centre.centre _ _ _ _ _ c.joined.ensures c.in_ok-clock.ensures.exact
    c.in_ok-serial.ensures.exact c.in_ok-centre.ensures.exact

pub returns-clause-between : goal.returns-clause-between
returns-clause-between g c = joined_between c.joined.result _ c.in_ok-clock.clock
    c.in_ok-serial.serial
    c.in_ok-centre.centre c.joined.ensures c.in_ok-serial.ensures.logged
    c.in_ok-centre.ensures.taken

pub returns-in_err-serial-clause-back : goal.returns-in_err-serial-clause-back
returns-in_err-serial-clause-back g c = λ s rest savable has e.
    let k = c.in_ok-clock.ensures.back s _ e in
    let h = c.in_err-serial.ensures.back s.serial _ savable.serial has.serial
    (savable.between.silent, savable.between.gap)
    (k.1 ∙ append_assoc (serial_lines s.serial) (centre_lines s.centre) rest) in search rules

pub returns-in_err-centre-clause-back : goal.returns-in_err-centre-clause-back
returns-in_err-centre-clause-back g c = λ s rest savable has e.
    let k = c.in_ok-clock.ensures.back s _ e in
    let m = c.in_ok-serial.ensures.back s.serial _ savable.serial has.serial
    (savable.between.silent, savable.between.gap)
    (k.1 ∙ append_assoc (serial_lines s.serial) (centre_lines s.centre) rest) in
    let h = c.in_err-centre.ensures.back s.centre rest savable.centre has.centre
    savable.between.arrived m.1 in
    search rules
