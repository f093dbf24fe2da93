use Rattle.std.proofs.Common.{subst}
use Rattle.state.specs.Replays.{IsRow}
use Rattle.state.specs.declared.replaying.Row.{Row}
use Rattle.state.proofs.Repeated.{one_more}
use Rattle.state.proofs.replaying.RepeaterPort.next.Goals as goal

pub invariant_of-self : goal.invariant_of-self
invariant_of-self g c =
    one_more g.K.ReplayScript.lines (g.L.EventLines.coming c.self.inside.lines)
    (g.L.EventLines.coming c.next_row.new.lines) c.self.inside.is_over c.self.inside.is_broken
    c.self.inside.history.entries c.came-self-inside.result.entries g.K.ReplayScript.log
    c.self.inside.failures c.self.inside.gap c.in-Ok-Event.next c.next_row.new.buf
    (subst (λ (row : Row). IsRow (g.L.EventLines.coming c.self.inside.lines)
    (g.L.EventLines.coming c.next_row.new.lines) row c.next_row.new.buf)
    c.in-Ok-Event.field-0-is c.in-Ok-Event.ensures) c.if-self.false c.came-self-inside.ensures
    c.self.invariant
