use Rattle.std.proofs.Common.{◌-◌, ◌≤◌}
use Rattle.traces.specs.FirstLines.{Paired}
use Rattle.traces.proofs.octets.write_narrow.Given as goal

abbrev pub invariant-blocks-2 : goal.invariant-blocks-2
invariant-blocks-2 l = record { pairs : Paired l.text l.buf l.end; within : l.end ≤ l.limit }

abbrev pub decreases-blocks-2 : goal.decreases-blocks-2
decreases-blocks-2 l = l.limit - l.end
