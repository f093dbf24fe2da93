use Rattle.session.specs.Runs.{run}
use Rattle.session.proofs.Keeps.{run_keeps}
use Rattle.session.proofs.Standard.{timed_out, pulls}
use Rattle.session.proofs.laws.timers_are_kept.Goals as goal

pub returns-clause-t1 : goal.returns-clause-t1
returns-clause-t1 c = λ p calls range. timed_out p (run p calls).session (run p calls).history
    (run_keeps p calls range)

pub returns-clause-w_t2_t3 : goal.returns-clause-w_t2_t3
returns-clause-w_t2_t3 c = λ p calls range. pulls p (run p calls).session (run p calls).history
    range
    (run_keeps p calls range)
