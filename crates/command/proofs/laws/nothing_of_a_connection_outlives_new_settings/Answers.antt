use Rattle.command.proofs.Outlived.{lines_refuse_none}
use Rattle.command.proofs.laws.nothing_of_a_connection_outlives_new_settings.Goals as goal

pub returns-clause-lines : goal.returns-clause-lines
returns-clause-lines c = λ stations sizes select_ms max_age_ms before s k. lines_refuse_none s.lines
    before k
