use Rattle.link.proofs.Resting.{leave, stations}
use Rattle.link.proofs.laws.leave.rests_mean.Goals as goal

pub returns-clause-leave : goal.returns-clause-leave
returns-clause-leave c = λ p may_poll waiting fits free none.
    leave p may_poll waiting fits.turn free none

pub returns-clause-stations : goal.returns-clause-stations
returns-clause-stations c = λ p may_poll waiting fits free none.
    stations p may_poll waiting fits.turn free none
