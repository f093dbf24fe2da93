use Rattle.state.proofs.NoticeLemmas.{first_told, not_told, silent_again, silent_first, told_anew}
use Rattle.state.proofs.NoticeLemmas.{told_later, told_over}
use Rattle.state.proofs.laws.a_loss_is_reported_each_minute_until_it_is_over.Goals as goal

pub returns-clause-first : goal.returns-clause-first
returns-clause-first c = first_told

pub returns-clause-anew : goal.returns-clause-anew
returns-clause-anew c = told_anew

pub returns-clause-later : goal.returns-clause-later
returns-clause-later c = told_later

pub returns-clause-within : goal.returns-clause-within
returns-clause-within c = not_told

pub returns-clause-over : goal.returns-clause-over
returns-clause-over c = told_over

pub returns-clause-silent : goal.returns-clause-silent
returns-clause-silent c = silent_first

pub returns-clause-once : goal.returns-clause-once
returns-clause-once c = silent_again
