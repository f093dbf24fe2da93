-- So much of the record was read, run and compared.
use Rattle.record.specs.Steps.{AuditsTo}
use Rattle.record.proofs.audit.audit_text.Given as goal

abbrev pub invariant-auditing : goal.invariant-auditing
invariant-auditing g l = AuditsTo l.fn.config l.fn.past.entries (g.R.Read.remaining l.fn.text)
    l.blocks.coming l.blocks.is_over l.gateway l.course.halt l.course.standing
