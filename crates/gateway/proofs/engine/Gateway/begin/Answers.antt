use Rattle.std.proofs.Common.{sym, ◌∙◌}
use Rattle.gateway.proofs.Events.{logged_open}
use Rattle.gateway.proofs.engine.Gateway.begin.Goals as goal

pub returns-clause-kept : goal.returns-clause-kept
returns-clause-kept g c = λ p s now fits b h.
    logged_open p _ s c.args.self.now c.renew.new.self now fits c.line_keeps_the_procedures.ensures
    b
    (sym c.is_open.ensures ∙ c.if-is_open.false) c.renew.ensures h
