use Rattle.centre.specs.Desks.{None_yet}
use Rattle.centre.proofs.Rounds.{one_more}
use Rattle.centre.proofs.desk.Desk.send.Goals as goal

pub apdus-init : goal.apdus-init
apdus-init g c = None_yet

pub apdus-preserved : goal.apdus-preserved
apdus-preserved g c =
    one_more c.args.now c.apdus.counter _ _ _ _ _ _ _ c.apdus.invariant c.self.view_is
    c.in-Some.ensures.due c.in_ok-put.ensures
