use Rattle.statetext.proofs.Rotten.{rotten_shows}
use Rattle.statetext.proofs.laws.no_sum_hides_a_rotten_octet.Goals as goal

pub returns : goal.returns
returns c = rotten_shows
