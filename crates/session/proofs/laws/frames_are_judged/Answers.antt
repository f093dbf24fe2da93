use Rattle.session.specs.Runs.{run}
use Rattle.session.proofs.Keeps.{run_keeps}
use Rattle.session.proofs.States.{refused_acknowledges}
use Rattle.session.proofs.Standard.{verdict, acknowledges}
use Rattle.session.proofs.laws.frames_are_judged.Goals as goal

pub returns-clause-verdict : goal.returns-clause-verdict
returns-clause-verdict c = λ p calls range. verdict p (run p calls).session (run p calls).history
    range
    (run_keeps p calls range)

pub returns-clause-acknowledged : goal.returns-clause-acknowledged
returns-clause-acknowledged c = λ p calls range. acknowledges p (run p calls).session
    (run p calls).history range
    (run_keeps p calls range)

pub returns-clause-refused : goal.returns-clause-refused
returns-clause-refused c = refused_acknowledges
