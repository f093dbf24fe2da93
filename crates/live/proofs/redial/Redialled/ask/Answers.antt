use Rattle.live.specs.Redial.{Asked}
use Rattle.live.proofs.Tries.{answered_from}
use Rattle.live.proofs.redial.Redialled.ask.Goals as goal

pub returns : goal.returns
returns g c = answered_from _ Asked c.ask-answer.result _ _ _ _ _ _ c.self.view_is
    c.ask-answer.ensures.fresh c.ask-answer.ensures.noted c.ask-answer.ensures.called
    c.ask-answer.ensures.unpaused c.settle.ensures
