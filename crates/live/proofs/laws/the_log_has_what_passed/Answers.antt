use Rattle.live.proofs.Passed.{passed}
use Rattle.live.proofs.laws.the_log_has_what_passed.Goals as goal

pub returns : goal.returns
returns c = passed
