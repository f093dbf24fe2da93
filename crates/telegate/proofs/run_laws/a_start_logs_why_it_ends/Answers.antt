use Rattle.std.proofs.Common.{◌∙◌, ap, refl}
use Rattle.telegate.specs.Logged.{fault_of}
use Rattle.telegate.proofs.run_laws.a_start_logs_why_it_ends.Goals as goal

pub returns-clause-in_use : goal.returns-clause-in_use
returns-clause-in_use c old new logs = (new, logs, refl)

pub returns-clause-unusable : goal.returns-clause-unusable
returns-clause-unusable c cause old new logs = (logs.0, logs.1, (new, logs.2, refl))

pub returns-clause-ends : goal.returns-clause-ends
returns-clause-ends c why old new refused = (
  refused.refusal,
  (new, refused.written, refl),
  λ memory. refused.is ∙ ap fault_of memory,
  λ other. refused.is ∙ ap fault_of other,
)
