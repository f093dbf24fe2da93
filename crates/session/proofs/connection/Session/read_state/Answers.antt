use Rattle.std.proofs.Common.{◌++◌, ◌∙◌, ap, sym}
use Rattle.circular_buffer.specs.Buffer.{Buffer}
use Rattle.session.specs.declared.kinds.Unacknowledged.{Unacknowledged}
use Rattle.session.specs.declared.saving.Dues.{Dues}
use Rattle.session.proofs.ReadBack.{restored_is}
use Rattle.session.proofs.connection.Session.read_state.Goals as goal

pub returns-clause-back : goal.returns-clause-back
returns-clause-back g c = λ s rest sav set e.
    let n = c.in_ok-numbers.ensures.back s _ sav e in
    let d = c.in_ok-dues.ensures.back s _ sav n.1 in
    let f = c.in_ok-read_frames.ensures.back s.unacknowledged rest
    (ap (λ (x : Dues). x.frames) (sym d.0)) d.1 in
    let us = f.0 ∙ ap (λ (b : Buffer Unacknowledged). b.items ++ s.unacknowledged)
    c.in-Ok.ensures in
    (restored_is s _ _ _ _ _ _ _ _ set n.0 d.0 us, f.1)
