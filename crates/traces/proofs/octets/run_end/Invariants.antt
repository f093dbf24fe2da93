use Rattle.std.proofs.Common.{◌-◌, ◌≤◌}
use Rattle.traces.specs.FirstLines.{AreDigitsTo}
use Rattle.traces.proofs.octets.run_end.Given as goal

abbrev pub invariant-digits : goal.invariant-digits
invariant-digits l = record { digits : AreDigitsTo l.text l.end; within : l.end ≤ l.limit }

abbrev pub decreases-digits : goal.decreases-digits
decreases-digits l = l.limit - l.end
