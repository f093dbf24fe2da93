use Rattle.words.specs.Units.{reason_words}
use Rattle.words.proofs.units.push_reason.Goals as goal

pub returns : goal.returns
unfolding reason_words
returns c = rw c.reason-reason.ensures at c.write.ensures.bytes
