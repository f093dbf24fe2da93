use Rattle.std.proofs.Common.{◌∙◌}
use Rattle.sim.proofs.Bare.{answered_alike}
use Rattle.sim.proofs.tally.StationTally.answered.Goals as goal

pub returns : goal.returns
returns c = c.answered_bare.ensures
    ∙ answered_alike c.args.answer.now c.args.self _ _ c.asked.ensures
