use Rattle.live.proofs.Cuts.{run_cuts_first}
use Rattle.live.proofs.Runs.{begins_so}
use Rattle.live.proofs.laws.a_run_that_goes_on_begins_with_a_cut.Goals as goal

pub returns-clause-due : goal.returns-clause-due
returns-clause-due c = run_cuts_first

pub returns-clause-run : goal.returns-clause-run
returns-clause-run c = λ ends is. (begins_so ends is).cut
