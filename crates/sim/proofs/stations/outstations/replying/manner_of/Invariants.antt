use Rattle.std.proofs.Common.{◌≡◌, drop}
use Rattle.sim.specs.Replying.{manner_of}
use Rattle.sim.proofs.stations.outstations.replying.manner_of.Given as goal

abbrev pub invariant-loop-cue : goal.invariant-loop-cue
invariant-loop-cue l =
    manner_of l.station (drop l.cue-index l.cues) ≡ manner_of l.station l.cues
