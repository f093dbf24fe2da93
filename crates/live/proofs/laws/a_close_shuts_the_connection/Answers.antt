use Rattle.live.proofs.Closes.{shut}
use Rattle.live.proofs.laws.a_close_shuts_the_connection.Goals as goal

pub returns : goal.returns
returns c = shut
