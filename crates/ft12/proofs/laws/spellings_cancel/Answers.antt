use Rattle.ft12.proofs.Frames.{one_spelling}
use Rattle.ft12.proofs.laws.spellings_cancel.Goals as goal

pub returns : goal.returns
returns c = one_spelling
