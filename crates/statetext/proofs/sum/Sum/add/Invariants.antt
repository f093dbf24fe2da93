use Rattle.std.proofs.Common.{◌≡◌, drop}
use Rattle.statetext.specs.Sum.{remainder_after}
use Rattle.statetext.proofs.sum.Sum.add.Given as goal

abbrev pub invariant-loop-octet : goal.invariant-loop-octet
invariant-loop-octet l =
    remainder_after l.remainder (drop l.octet-index l.octets)
    ≡ remainder_after l.fn.self.remainder l.octets
