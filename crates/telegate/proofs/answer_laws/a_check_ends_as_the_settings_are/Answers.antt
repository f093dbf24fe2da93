use Rattle.telegate.proofs.CheckLaw.{good_checked, wrong_checked}
use Rattle.telegate.proofs.answer_laws.a_check_ends_as_the_settings_are.Goals as goal

pub returns-clause-good : goal.returns-clause-good
returns-clause-good c config how old new = good_checked old new config how

pub returns-clause-wrong : goal.returns-clause-wrong
returns-clause-wrong c config how old new = wrong_checked old new config how
