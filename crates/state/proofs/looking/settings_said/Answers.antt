use Rattle.state.proofs.looking.settings_said.Goals as goal

pub returns-in-Err-Wrong-clause-none : goal.returns-in-Err-Wrong-clause-none
returns-in-Err-Wrong-clause-none c = λ _. c.in-Err-Wrong.ensures.wrong c.in-Err-Wrong.field-0-is
