use Rattle.traces.specs.FirstLines.{Paired}
use Rattle.traces.proofs.octets.write_each.Given as goal

abbrev pub invariant-octets : goal.invariant-octets
invariant-octets l = Paired l.text l.buf l.i
