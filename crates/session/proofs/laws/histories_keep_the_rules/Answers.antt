use Rattle.session.proofs.Obeyed.{run_rules}
use Rattle.session.proofs.laws.histories_keep_the_rules.Goals as goal

pub returns : goal.returns
returns c = record { rules = λ p calls range. run_rules p calls range }
