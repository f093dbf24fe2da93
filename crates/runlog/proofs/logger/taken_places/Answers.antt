use Rattle.std.proofs.Common.{length, arith, ap}
use Rattle.runlog.proofs.logger.taken_places.Goals as goal

-- none is left to be counted
pub returns : goal.returns
returns c =
    let none = ap length c.in-None.ensures.steps.0 in
    let logged = c.loop-piece.invariant.logged in
    let all = c.loop-piece.invariant.all in
    omega arith
