use Rattle.live.proofs.Runs.{passed_so}
use Rattle.live.proofs.laws.a_run_logs_what_passed.Goals as goal

pub returns : goal.returns
returns c = passed_so
