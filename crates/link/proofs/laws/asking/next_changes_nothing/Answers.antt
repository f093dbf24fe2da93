use Rattle.link.proofs.Resting.{over, out, same, begins, up, no_command}
use Rattle.link.proofs.laws.asking.next_changes_nothing.Goals as goal

pub returns-clause-over : goal.returns-clause-over
returns-clause-over c = over

pub returns-clause-out : goal.returns-clause-out
returns-clause-out c = out

pub returns-clause-same : goal.returns-clause-same
returns-clause-same c = same

pub returns-clause-begins : goal.returns-clause-begins
returns-clause-begins c = begins

pub returns-clause-up : goal.returns-clause-up
returns-clause-up c = λ p may_poll waiting fits free none.
    up p may_poll waiting fits.turn free none

pub returns-clause-free : goal.returns-clause-free
returns-clause-free c = λ p may_poll waiting fits free none.
    no_command p may_poll waiting fits.turn free none
