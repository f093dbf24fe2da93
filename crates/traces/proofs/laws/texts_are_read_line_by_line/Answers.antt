use Rattle.std.proofs.Common.{map, sym, ap, subst, ◌∙◌, refl}
use Rattle.traces.specs.LineByLine.{AreSaid}
use Rattle.traces.specs.Progress.{came}
use Rattle.traces.specs.Trace.{lines_of}
use Rattle.traces.proofs.LineByLineLemmas.{are_said, entries_came, first_is}
use Rattle.traces.proofs.laws.texts_are_read_line_by_line.Goals as goal

pub returns-clause-entries : goal.returns-clause-entries
returns-clause-entries c = λ text entries read.
    let same = ap (map came) (sym read.1) ∙ entries_came entries.items in
    subst (AreSaid (lines_of text)) same (are_said 1 (lines_of text) read.0)

pub returns-clause-faults : goal.returns-clause-faults
returns-clause-faults c = λ text number read. first_is 1 (lines_of text) number read

pub returns-clause-right : goal.returns-clause-right
returns-clause-right c = λ first next text judged.
    (judged.1, are_said first (lines_of text) judged.0)

pub returns-clause-wrong : goal.returns-clause-wrong
returns-clause-wrong c = λ first number text judged. first_is first (lines_of text) number judged

pub returns-clause-run : goal.returns-clause-run
returns-clause-run c = λ text. refl
