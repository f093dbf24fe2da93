use Rattle.std.proofs.Common.{◌≡◌, ◌*◌, ◌++◌, take, drop}
use Rattle.hex.specs.Hex.{encode_upper}
use Rattle.traces.proofs.printing.spell.Given as goal

-- what is spelled, and the octets that are left, are all of them
abbrev pub invariant-octets : goal.invariant-octets
invariant-octets l = take (2 * l.i) l.out ++ encode_upper (drop l.i l.octets)
    ≡ encode_upper l.octets
