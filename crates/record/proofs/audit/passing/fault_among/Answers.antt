use Rattle.record.proofs.LineLemmas.{one_line}
use Rattle.record.proofs.audit.passing.fault_among.Goals as goal

pub judge_line-requires : goal.judge_line-requires
judge_line-requires c = one_line c.in-Some.text.now c.cut.result.0.now _ c.cut.ensures
