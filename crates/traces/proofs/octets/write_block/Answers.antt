use Rattle.std.proofs.Common.{◌+◌, ◌%◌, slice_set, arith}
use Rattle.std.proofs.lemmas.List.{take-set-le}
use Rattle.traces.proofs.PairLemmas.{block_more, pairs_same}
use Rattle.traces.proofs.octets.write_block.Goals as goal

pub pairs-preserved : goal.pairs-preserved
pairs-preserved c =
    let text = c.args.text.now in
    let from = c.args.from in
    let buf = c.pairs.buf in
    let place = from + c.pairs.i in
    let n = c.pair-octet.result in
    record {
      all = λ small. block_more text buf from c.pairs.i n c.pairs.bits (omega arith) (omega arith)
          c.pair-octet.ensures
          small c.pairs.invariant.all;
      before = pairs_same text buf (slice_set buf place (n % 256)) from
          (take-set-le from buf place (n % 256) (omega arith)) c.pairs.invariant.before;
    }
