use Rattle.std.proofs.Common.{◌≡◌, take}
use Rattle.statetext.proofs.lines.widen.Given as goal

abbrev pub invariant-loop-octet : goal.invariant-loop-octet
invariant-loop-octet l = l.line.items ≡ take l.octet-index l.octets
