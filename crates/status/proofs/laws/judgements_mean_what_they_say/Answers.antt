use Rattle.status.proofs.JudgeLaws.{ok_is_well, well_is_ok}
use Rattle.status.proofs.laws.judgements_mean_what_they_say.Goals as goal

pub returns-clause-ok : goal.returns-clause-ok
returns-clause-ok c = ok_is_well

pub returns-clause-well : goal.returns-clause-well
returns-clause-well c = well_is_ok
