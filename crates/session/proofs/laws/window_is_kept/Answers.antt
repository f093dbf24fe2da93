use Rattle.session.specs.Runs.{run}
use Rattle.session.proofs.Keeps.{run_keeps}
use Rattle.session.proofs.Standard.{at_most_k, sends}
use Rattle.session.proofs.laws.window_is_kept.Goals as goal

pub returns-clause-at_most_k : goal.returns-clause-at_most_k
returns-clause-at_most_k c = λ p calls range. at_most_k p (run p calls).session
    (run p calls).history
    (run_keeps p calls range)

pub returns-clause-may_send : goal.returns-clause-may_send
returns-clause-may_send c = λ p calls range. sends p (run p calls).session (run p calls).history
    (run_keeps p calls range)
