use Rattle.live.proofs.Law.{kept}
use Rattle.live.proofs.laws.looks_ask_nothing.Goals as goal

pub returns : goal.returns
returns c = kept
