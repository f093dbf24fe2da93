use Rattle.record.proofs.Text.{notes_line, gives_text, gives_taken, ends, gives_over, receives_line}
use Rattle.record.proofs.laws.a_record_is_the_text_of_what_passed.Goals as goal

pub returns-clause-notes : goal.returns-clause-notes
returns-clause-notes c = λ old new line n. notes_line old new line n

pub returns-clause-gives : goal.returns-clause-gives
returns-clause-gives c = λ old new g. gives_text old new g

pub returns-clause-taken : goal.returns-clause-taken
returns-clause-taken c = λ old new g goes. gives_taken old new g goes

pub returns-clause-ends : goal.returns-clause-ends
returns-clause-ends c = λ old new line n over. ends old new line n over

pub returns-clause-over : goal.returns-clause-over
returns-clause-over c = λ old new g over. gives_over old new g over

pub returns-clause-receives : goal.returns-clause-receives
returns-clause-receives c = λ old new next buf h goes. receives_line old new next buf h goes

pub returns-clause-puts : goal.returns-clause-puts
returns-clause-puts c = λ old new news p. notes_line old new news p

pub returns-clause-stays : goal.returns-clause-stays
returns-clause-stays c = λ old new news same. same
