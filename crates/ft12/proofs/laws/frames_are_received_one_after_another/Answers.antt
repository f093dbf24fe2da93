use Rattle.ft12.proofs.Following.{received_whole}
use Rattle.ft12.proofs.laws.frames_are_received_one_after_another.Goals as goal

pub returns : goal.returns
returns c = received_whole
