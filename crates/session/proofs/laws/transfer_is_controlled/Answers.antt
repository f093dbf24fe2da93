use Rattle.session.specs.Runs.{run}
use Rattle.session.proofs.Keeps.{run_keeps}
use Rattle.session.proofs.Standard.{confirms}
use Rattle.session.proofs.laws.transfer_is_controlled.Goals as goal

pub returns-clause-transferring : goal.returns-clause-transferring
returns-clause-transferring c = λ p calls range. (run_keeps p calls range).transferring

pub returns-clause-confirm : goal.returns-clause-confirm
returns-clause-confirm c = λ p calls range. confirms p (run p calls).session (run p calls).history
    range
    (run_keeps p calls range)

pub returns-clause-once : goal.returns-clause-once
returns-clause-once c = λ p calls range. (run_keeps p calls range).once
