use Rattle.command.proofs.Tagged.{run_fresh}
use Rattle.command.proofs.Wholes.{any_age}
use Rattle.command.proofs.laws.sent_activations_are_fresh.Goals as goal

pub returns-clause-activations : goal.returns-clause-activations
returns-clause-activations c = λ stations sizes select_ms max_age_ms calls.
    run_fresh stations sizes select_ms max_age_ms calls

pub returns-clause-deactivations : goal.returns-clause-deactivations
returns-clause-deactivations c = any_age
