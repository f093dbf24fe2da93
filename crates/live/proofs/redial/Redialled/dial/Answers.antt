use Rattle.live.specs.Redial.{Dialed}
use Rattle.live.proofs.Tries.{answered_from}
use Rattle.live.proofs.redial.Redialled.dial.Goals as goal

pub returns : goal.returns
returns g c = answered_from _ Dialed c.dial-answer.result _ _ _ _ _ _ c.self.view_is
    c.dial-answer.ensures.fresh c.dial-answer.ensures.noted c.dial-answer.ensures.called
    c.dial-answer.ensures.unpaused c.settle.ensures
