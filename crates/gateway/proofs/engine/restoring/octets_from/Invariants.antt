use Rattle.std.proofs.Common.{◌≡◌, take}
use Rattle.gateway.proofs.engine.restoring.octets_from.Given as goal

abbrev pub invariant-loop-number : goal.invariant-loop-number
invariant-loop-number l = l.octets.items ≡ take l.number-index l.numbers
