use Rattle.gateway.specs.Phases.{Timed}
use Rattle.gateway.proofs.Put.{late_none, logged_late}
use Rattle.gateway.proofs.engine.Gateway.close_if_late.Goals as goal

pub returns-in-None-clause-in_time : goal.returns-in-None-clause-in_time
returns-in-None-clause-in_time g c = late_none _ c.in-None.ensures

pub returns-in-Some-clause-kept : goal.returns-in-Some-clause-kept
returns-in-Some-clause-kept g c = λ p h. c.close.ensures.kept p Timed
    (logged_late p _ c.args.self.now c.in-Some.cause c.in-Some.ensures c.requires.logged h)
