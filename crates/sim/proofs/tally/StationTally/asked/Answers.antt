use Rattle.std.proofs.Common.{◌∙◌}
use Rattle.sim.proofs.Bare.{asked_alike}
use Rattle.sim.proofs.tally.StationTally.asked.Goals as goal

pub returns : goal.returns
returns c = c.asked_bare.ensures ∙ asked_alike c.args.given c.args.self _ _ c.asked.ensures
