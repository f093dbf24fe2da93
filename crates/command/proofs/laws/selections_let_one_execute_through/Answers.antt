use Rattle.command.proofs.Exchanged.{executes_are_exchanged}
use Rattle.command.proofs.laws.selections_let_one_execute_through.Goals as goal

pub returns : goal.returns
returns c =
    λ stations sizes select_ms max_age_ms calls xs now wall guarded executing passes.
    executes_are_exchanged stations sizes select_ms max_age_ms calls xs now wall guarded executing
    passes
