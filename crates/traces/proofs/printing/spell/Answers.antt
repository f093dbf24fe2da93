use Rattle.std.proofs.Common.{arith}
use Rattle.hex.specs.Hex.{upper_digits}
use Rattle.hex.proofs.Pairs.{encode_step, encode_done}
use Rattle.traces.proofs.printing.spell.Goals as goal

pub octets-preserved : goal.octets-preserved
octets-preserved c =
    encode_step upper_digits c.args.octets.now c.octets.out c.octets.i c.pair_of-high.result.0
    c.pair_of-high.result.1
    (omega arith) (omega arith) c.pair_of-high.ensures.high c.pair_of-high.ensures.low
    c.octets.invariant

pub returns : goal.returns
returns c =
    encode_done upper_digits c.args.octets.now c.octets.out c.octets.i (omega arith) (omega arith)
    c.octets.invariant
