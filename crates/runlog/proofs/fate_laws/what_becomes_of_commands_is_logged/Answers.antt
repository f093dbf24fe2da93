use Rattle.std.proofs.Common.{refl}
use Rattle.runlog.proofs.Trailing.{busy_told, comings_so, ordered_so, replied_so, sendings_so}
use Rattle.runlog.proofs.Trailing.{told_once, told_so, told_whole}
use Rattle.runlog.proofs.fate_laws.what_becomes_of_commands_is_logged.Goals as goal

pub returns-clause-told : goal.returns-clause-told
returns-clause-told c = told_so

pub returns-clause-comings : goal.returns-clause-comings
returns-clause-comings c = comings_so

pub returns-clause-sendings : goal.returns-clause-sendings
returns-clause-sendings c = sendings_so

pub returns-clause-answers : goal.returns-clause-answers
returns-clause-answers c = replied_so

pub returns-clause-ends : goal.returns-clause-ends
returns-clause-ends c = busy_told

pub returns-clause-order : goal.returns-clause-order
returns-clause-order c = ordered_so

pub returns-clause-whole : goal.returns-clause-whole
returns-clause-whole c = told_whole

pub returns-clause-once : goal.returns-clause-once
returns-clause-once c = told_once

pub returns-clause-skips : goal.returns-clause-skips
returns-clause-skips c = (
  λ address now s report h. rw h refl,
  λ address now s report h. rw h refl,
  λ address now s report h. rw h refl,
  λ address now s report h. rw h refl,
  λ address now s report h. rw h refl,
)

pub returns-clause-mishaps : goal.returns-clause-mishaps
returns-clause-mishaps c address now = (refl, λ by. refl, λ ms. refl)
