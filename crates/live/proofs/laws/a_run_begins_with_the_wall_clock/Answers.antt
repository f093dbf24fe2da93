use Rattle.std.proofs.Common.{refl}
use Rattle.live.proofs.Cuts.{wall_of}
use Rattle.live.proofs.Runs.{begins_so}
use Rattle.live.proofs.laws.a_run_begins_with_the_wall_clock.Goals as goal

pub returns-clause-run : goal.returns-clause-run
returns-clause-run c = λ ends is. (begins_so ends is).wall

pub returns-clause-words : goal.returns-clause-words
returns-clause-words c now number event action = (refl, refl, wall_of event)
