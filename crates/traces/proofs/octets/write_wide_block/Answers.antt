use Rattle.std.proofs.Common.{◌+◌, ◌*◌, ℕ, get_or, arith, slice_set, length-set}
use Rattle.std.proofs.lemmas.List.{take-set-le}
use Rattle.traces.proofs.PairLemmas.{value_more, small_more, wide_more, pairs_same}
use Rattle.traces.proofs.octets.write_wide_block.Goals as goal

pub digits-preserved : goal.digits-preserved
digits-preserved c = record {
  known = value_more c.args.text.now c.digits.values c.args.from c.digits.i c.digit_value.result
      c.digits.are
      c.is_digit-are.result (omega arith) c.is_digit-are.ensures c.digit_value.ensures.value
      c.digits.invariant.known;
  small = small_more c.digits.values c.digits.i c.digit_value.result (omega arith)
      c.digit_value.ensures.small
      c.digits.invariant.small;
  long = omega (arith, c.digits.invariant.long, length-set {A = ℕ});
}

pub pairs-preserved : goal.pairs-preserved
pairs-preserved c =
    let text = c.args.text.now in
    let from = c.args.from in
    let buf = c.pairs.buf in
    let i = c.pairs.i in
    let high = get_or c.digits.values (2 * i) 0 in
    let low = get_or c.digits.values (2 * i + 1) 0 in
    let high_small = c.digits.invariant.small (2 * i) (omega arith) in
    let low_small = c.digits.invariant.small (2 * i + 1) (omega arith) in
    record {
      all = λ are. wide_more text buf from i high low (omega arith) (omega arith)
          (c.digits.invariant.known are (2 * i) (omega arith))
          (c.digits.invariant.known are (2 * i + 1) (omega arith)) high_small low_small
          (c.pairs.invariant.all are);
      before = pairs_same text buf (slice_set buf (from + i) (16 * high + low)) from
          (take-set-le from buf (from + i) (16 * high + low) (omega arith))
          c.pairs.invariant.before;
    }
