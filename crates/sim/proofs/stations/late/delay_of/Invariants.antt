use Rattle.std.proofs.Common.{◌≡◌, drop}
use Rattle.sim.specs.Late.{delay_of}
use Rattle.sim.proofs.stations.late.delay_of.Given as goal

abbrev pub invariant-loop-cue : goal.invariant-loop-cue
invariant-loop-cue l =
    delay_of l.request (drop l.cue-index l.cues) ≡ delay_of l.request l.cues
