use Rattle.state.proofs.GapLemmas.{gap_again, gap_past, no_gap, quiet_else}
use Rattle.state.proofs.laws.a_gap_of_the_last_step_is_reported_again.Goals as goal

pub returns-clause-gap : goal.returns-clause-gap
returns-clause-gap c = gap_again

pub returns-clause-past : goal.returns-clause-past
returns-clause-past c = gap_past

pub returns-clause-none : goal.returns-clause-none
returns-clause-none c = no_gap

pub returns-clause-quiet : goal.returns-clause-quiet
returns-clause-quiet c = quiet_else
