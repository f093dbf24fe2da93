use Rattle.std.proofs.Common.{◌∙◌}
use Rattle.record.proofs.LineLemmas.{mark_found}
use Rattle.record.proofs.audit.passing.is_cut.Goals as goal

pub returns : goal.returns
returns c = c.is_some.ensures ∙ mark_found c.args.line.now c.memchr.result c.memchr.ensures
