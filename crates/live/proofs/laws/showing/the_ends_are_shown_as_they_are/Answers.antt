use Rattle.live.proofs.Shown.{cut_shown, due_shown, gone_shown, late_shown, line_shown, shut_shown}
use Rattle.live.proofs.laws.showing.the_ends_are_shown_as_they_are.Goals as goal

pub returns-clause-line : goal.returns-clause-line
returns-clause-line c = line_shown

pub returns-clause-late : goal.returns-clause-late
returns-clause-late c = late_shown

pub returns-clause-cut : goal.returns-clause-cut
returns-clause-cut c = cut_shown

pub returns-clause-shut : goal.returns-clause-shut
returns-clause-shut c = shut_shown

pub returns-clause-gone : goal.returns-clause-gone
returns-clause-gone c = gone_shown

pub returns-clause-due : goal.returns-clause-due
returns-clause-due c = due_shown
