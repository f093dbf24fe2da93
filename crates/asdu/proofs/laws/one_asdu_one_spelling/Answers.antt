use Rattle.asdu.proofs.Related.{one_asdu}
use Rattle.asdu.proofs.laws.one_asdu_one_spelling.Goals as goal

pub returns-clause-one_asdu : goal.returns-clause-one_asdu
returns-clause-one_asdu c = one_asdu
