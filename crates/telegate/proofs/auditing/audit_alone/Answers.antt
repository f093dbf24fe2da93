use Rattle.std.proofs.Common.{subst}
use Rattle.gateway.specs.Log.{Log}
use Rattle.telegate.specs.Audits.{IsAuditedBy}
use Rattle.telegate.proofs.auditing.audit_alone.Goals as goal

pub returns : goal.returns
returns g c =
    subst (λ (past : Log).
    IsAuditedBy c.args.config.now past (g.S.Source.has c.args.text.now) c.audit.result)
    c.new.ensures c.audit.ensures
