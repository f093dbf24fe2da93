use Rattle.state.proofs.NameCalls.{aside}
use Rattle.state.proofs.files.laws.files_are_put_aside_in_pairs.Goals as goal

pub returns : goal.returns
returns c = aside
