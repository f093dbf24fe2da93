use Rattle.command.proofs.CallByCall.{is_answered_busy, wait_in_turn}
use Rattle.command.proofs.Refusals.{refuses}
use Rattle.command.proofs.Runs.{run_holds}
use Rattle.command.proofs.Wholes.{run_wholly}
use Rattle.command.proofs.laws.own_answers_are_given.Goals as goal

pub returns-clause-right : goal.returns-clause-right
returns-clause-right c = λ stations sizes select_ms max_age_ms calls.
    (run_holds sizes stations select_ms max_age_ms calls).keeps.rightly

pub returns-clause-in_turn : goal.returns-clause-in_turn
returns-clause-in_turn c = λ stations sizes select_ms max_age_ms calls.
    (run_holds sizes stations select_ms max_age_ms calls).keeps.own.in_turn

pub returns-clause-kept : goal.returns-clause-kept
returns-clause-kept c = λ stations sizes select_ms max_age_ms calls.
    (run_holds sizes stations select_ms max_age_ms calls).keeps.own.kept

pub returns-clause-spelled : goal.returns-clause-spelled
returns-clause-spelled c = refuses

pub returns-clause-wholly : goal.returns-clause-wholly
returns-clause-wholly c = run_wholly

pub returns-clause-busy : goal.returns-clause-busy
returns-clause-busy c = λ stations sizes select_ms max_age_ms calls k.
    is_answered_busy stations sizes select_ms max_age_ms calls k

pub returns-clause-waiting : goal.returns-clause-waiting
returns-clause-waiting c = λ stations sizes select_ms max_age_ms calls.
    wait_in_turn stations sizes select_ms max_age_ms calls
