use Rattle.apci.proofs.Following.{received_whole}
use Rattle.apci.proofs.laws.apdus_are_received_one_after_another.Goals as goal

pub returns : goal.returns
returns c = received_whole
