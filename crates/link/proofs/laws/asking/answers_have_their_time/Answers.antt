use Rattle.std.proofs.Common.{None}
use Rattle.link.proofs.Timed.{all_in_time}
use Rattle.link.proofs.laws.asking.answers_have_their_time.Goals as goal

pub returns : goal.returns
returns c = λ settings addresses calls. all_in_time _ None calls tt
