use Rattle.std.proofs.Common.{sym}
use Rattle.statetext.proofs.TextLemmas.{row_behind, no_row_behind}
use Rattle.statetext.proofs.lines.row_at.Goals as goal

pub returns-in-Some-clause-some : goal.returns-in-Some-clause-some
returns-in-Some-clause-some c = row_behind c.args.text.now c.args.at c.in-Some.i
    (sym c.in-Some.ensures.first)

pub returns-in-None-clause-none : goal.returns-in-None-clause-none
returns-in-None-clause-none c _ =
    no_row_behind c.args.text.now c.args.at (sym c.in-None.ensures.first)
