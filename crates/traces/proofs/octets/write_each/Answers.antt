use Rattle.std.proofs.Common.{arith}
use Rattle.traces.proofs.PairLemmas.{pairs_more}
use Rattle.traces.proofs.octets.write_each.Goals as goal

pub octets-preserved : goal.octets-preserved
octets-preserved c =
    pairs_more c.args.text.now c.octets.buf c.octets.i c.pair-octet.result (omega arith)
    (omega arith)
    c.pair-octet.ensures (omega arith) c.octets.invariant
