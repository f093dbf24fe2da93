use Rattle.std.proofs.Common.{sym}
use Rattle.record.proofs.LineLemmas.{last_part, no_part}
use Rattle.record.proofs.audit.passing.part_of.Goals as goal

pub returns-in-Some-clause-last : goal.returns-in-Some-clause-last
returns-in-Some-clause-last c = λ over. last_part c.args.block.now c.in-Some.end c.in-Some.ensures

pub returns-in-None-clause-last : goal.returns-in-None-clause-last
returns-in-None-clause-last c = λ over. sym (no_part c.args.block.now c.in-None.ensures)
