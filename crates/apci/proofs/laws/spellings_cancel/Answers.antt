use Rattle.apci.proofs.Apdus.{one_spelling}
use Rattle.apci.proofs.laws.spellings_cancel.Goals as goal

pub returns : goal.returns
returns c = λ a b x y e. one_spelling a b x y e
