use Rattle.std.proofs.Common.{◌≡◌, ◌++◌, take}
use Rattle.apci.proofs.assembling.put_all.Given as goal

abbrev pub invariant-loop-octet : goal.invariant-loop-octet
invariant-loop-octet l = l.line.items ≡ l.fn.line.items ++ take l.octet-index l.octets
