use Rattle.std.proofs.Common.{◌-◌, length}
use Rattle.traces.specs.FirstLines.{AreDigitsTo}
use Rattle.traces.proofs.octets.blocks_end.Given as goal

abbrev pub invariant-blocks-2 : goal.invariant-blocks-2
invariant-blocks-2 l = AreDigitsTo l.text l.end

abbrev pub decreases-blocks-2 : goal.decreases-blocks-2
decreases-blocks-2 l = length l.text - l.end
