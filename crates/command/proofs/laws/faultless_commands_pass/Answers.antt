use Rattle.command.proofs.Faultless.{other_passes, select_passes, execute_passes}
use Rattle.command.proofs.laws.faultless_commands_pass.Goals as goal

pub returns-clause-others : goal.returns-clause-others
returns-clause-others c = λ stations sizes select_ms max_age_ms calls xs now wall faultless free
    places. other_passes stations sizes select_ms max_age_ms calls xs now wall faultless free places

pub returns-clause-selects : goal.returns-clause-selects
returns-clause-selects c = λ stations sizes select_ms max_age_ms calls xs now wall faultless
    selecting few places. select_passes stations sizes select_ms max_age_ms calls xs now wall
    faultless selecting few places

pub returns-clause-executes : goal.returns-clause-executes
returns-clause-executes c = λ stations sizes select_ms max_age_ms calls falls now later xs wall
    faultless executing selected places. execute_passes stations sizes select_ms max_age_ms calls xs
    now wall faultless falls later executing selected places
