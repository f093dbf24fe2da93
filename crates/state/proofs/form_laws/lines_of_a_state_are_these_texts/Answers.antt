use Rattle.std.proofs.Common.{◌∙◌, List, ℕ, Option, ap, refl}
use Rattle.std.proofs.lemmas.List.{append-nil}
use Rattle.std.specs.Fmt.{decimal}
use Rattle.statetext.specs.Text.{before_lines, lines_in}
use Rattle.statetext.proofs.TextLemmas.{line_first, octets_line}
use Rattle.state.proofs.form_laws.lines_of_a_state_are_these_texts.Goals as goal

pub returns-clause-numbers : goal.returns-clause-numbers
returns-clause-numbers c n m ns = (append-nil (decimal n), refl)

pub returns-clause-octets : goal.returns-clause-octets
returns-clause-octets c = octets_line

pub returns-clause-lines : goal.returns-clause-lines
returns-clause-lines c row rest line whole is =
    line_first row rest whole
    ∙ ap (λ (l : Option (List ℕ)). before_lines l (lines_in rest)) is
