use Rattle.command.proofs.CallByCall.{go_in_turn}
use Rattle.command.proofs.LineForms.{lines_are_spelled}
use Rattle.command.proofs.Runs.{run_holds, waits}
use Rattle.command.proofs.laws.commands_are_forwarded.Goals as goal

pub returns-clause-in_turn : goal.returns-clause-in_turn
returns-clause-in_turn c = λ stations sizes select_ms max_age_ms calls.
    (run_holds sizes stations select_ms max_age_ms calls).keeps.queue.sends

pub returns-clause-waiting : goal.returns-clause-waiting
returns-clause-waiting c =
    λ stations sizes select_ms max_age_ms calls k. waits sizes stations select_ms max_age_ms calls k

pub returns-clause-spelled : goal.returns-clause-spelled
returns-clause-spelled c = lines_are_spelled

pub returns-clause-queued : goal.returns-clause-queued
returns-clause-queued c = λ stations sizes select_ms max_age_ms calls k.
    go_in_turn stations sizes select_ms max_age_ms calls k
