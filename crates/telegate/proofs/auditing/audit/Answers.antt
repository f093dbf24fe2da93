use Rattle.std.proofs.Common.{sym, subst}
use Rattle.telegate.specs.Audits.{IsAuditFault}
use Rattle.telegate.specs.declared.fault.Fault.{Fault}
use Rattle.telegate.proofs.AuditLemmas.{audited, unaudited}
use Rattle.telegate.proofs.auditing.audit.Goals as goal

pub returns-in-Ok : goal.returns-in-Ok
returns-in-Ok g c =
    audited c.args.config.now c.args.past.entries (g.S.Source.has c.args.text.now) c.in_ok-config.config
    (g.S.Text.Read.remaining c.in_ok-text.text) c.in_ok-config.ensures c.in_ok-text.ensures.text
    c.in-Ok.comparison
    c.answer_comparison.result c.in-Ok.ensures c.answer_comparison.ensures

pub returns : goal.returns
returns g c =
    let has = g.S.Source.has c.args.text.now in
    subst (λ (f : Fault). IsAuditFault c.args.config.now has f) (sym c.fault_of.ensures)
    (unaudited c.args.config.now c.args.past.entries has c.in_ok-config.config
    (g.S.Text.Read.remaining c.in_ok-text.text)
    c.in_ok-config.ensures c.in_ok-text.ensures.text c.in-Err.fault c.in-Err.ensures)
