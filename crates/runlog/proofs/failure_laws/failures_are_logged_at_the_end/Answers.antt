use Rattle.std.proofs.Common.{inr}
use Rattle.runlog.proofs.Failures.{between_so, lost_so}
use Rattle.runlog.proofs.failure_laws.failures_are_logged_at_the_end.Goals as goal

pub returns-clause-line : goal.returns-clause-line
returns-clause-line c = λ w is second. (lost_so w.line w.moment is second).line

pub returns-clause-known : goal.returns-clause-known
returns-clause-known c = λ w before is last lt.
    (between_so w.line w.moment before (inr is) last lt).line
