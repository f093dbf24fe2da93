use Rattle.live.proofs.Noting.{still}
use Rattle.live.proofs.laws.what_is_noted_is_noted_to_the_end.Goals as goal

pub returns : goal.returns
returns c = still
