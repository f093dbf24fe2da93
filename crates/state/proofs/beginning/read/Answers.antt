use Rattle.state.proofs.GoingOn.{say_state}
use Rattle.state.proofs.beginning.read.Goals as goal

pub returns-in-Ok-clause-read : goal.returns-in-Ok-clause-read
returns-in-Ok-clause-read g c first rest is savable follows =
    (c.in-Ok.ensures.follows first rest g.K.Lineage.log savable follows is).0

pub returns-clause-wrong : goal.returns-clause-wrong
returns-clause-wrong g c wrong are =
    c.in-Err.ensures.back are.state are.rest are.savable are.settings are.are wrong

pub returns-in-Ok-clause-said : goal.returns-in-Ok-clause-said
returns-in-Ok-clause-said g c = say_state _ _ _ c.in-Ok.ensures.exact
