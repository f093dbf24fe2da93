use Rattle.gateway.proofs.Clock.{known, unknown}
use Rattle.gateway.proofs.laws.walls.the_wall_clock_is_known.Goals as goal

pub returns : goal.returns
returns c = record { shown = known; unknown = unknown }
