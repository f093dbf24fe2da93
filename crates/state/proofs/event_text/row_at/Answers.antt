use Rattle.std.proofs.Common.{sym}
use Rattle.state.proofs.EventTexts.{row_behind, no_row_behind, one_row}
use Rattle.state.proofs.event_text.row_at.Goals as goal

pub returns-in-Some-clause-some : goal.returns-in-Some-clause-some
returns-in-Some-clause-some c = row_behind c.args.text.now c.args.at c.in-Some.i
    (sym c.in-Some.ensures.first)

pub returns-in-Some-clause-one : goal.returns-in-Some-clause-one
returns-in-Some-clause-one c = one_row _ c.in-Some.i (sym c.in-Some.ensures.first)
    c.in-Some.ensures.within

pub returns-in-None-clause-none : goal.returns-in-None-clause-none
returns-in-None-clause-none c _ =
    no_row_behind c.args.text.now c.args.at (sym c.in-None.ensures.first)
