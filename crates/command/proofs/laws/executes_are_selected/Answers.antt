use Rattle.command.proofs.Wholes.{run_selected, run_guarded}
use Rattle.command.proofs.laws.executes_are_selected.Goals as goal

pub returns-clause-selected : goal.returns-clause-selected
returns-clause-selected c = run_selected

pub returns-clause-each_station : goal.returns-clause-each_station
returns-clause-each_station c = λ stations sizes select_ms max_age_ms calls k station stands
    guarded.
    run_guarded stations sizes select_ms max_age_ms calls k station stands guarded
