use Rattle.std.proofs.Common.{◌+◌, ◌*◌, ◌/◌, ◌%◌, ℕ, get_or, arith, length-set}
use Rattle.traces.proofs.PrintLemmas.{block_more, digits_more}
use Rattle.traces.proofs.printing.spell_block.Goals as goal

pub octets-preserved : goal.octets-preserved
octets-preserved c = record {
  digits = digits_more c.args.octets.now c.octets.pairs c.args.from c.octets.i
      c.both_digits.result (omega arith)
      (c.both_digits.ensures.high, c.both_digits.ensures.low)
      c.octets.invariant.digits;
  long = omega (arith, c.octets.invariant.long, length-set {A = ℕ});
}

pub pairs-preserved : goal.pairs-preserved
pairs-preserved c = record {
  spelled = block_more c.args.octets.now c.pairs.out c.args.from c.pairs.i
      (get_or c.octets.pairs c.pairs.i 0) (omega arith)
      (omega (arith, c.pairs.invariant.long)) (c.octets.invariant.digits c.pairs.i (omega arith))
      c.pairs.invariant.spelled;
  long = omega (arith, c.pairs.invariant.long, length-set {A = ℕ});
}
