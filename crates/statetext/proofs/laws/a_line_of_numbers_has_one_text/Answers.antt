use Rattle.statetext.proofs.OneText.{numbers_of_one}
use Rattle.statetext.proofs.laws.a_line_of_numbers_has_one_text.Goals as goal

pub returns : goal.returns
returns c = numbers_of_one
