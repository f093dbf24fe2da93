use Rattle.std.proofs.Common.{◌+◌, ◌-◌, true, sym, arith}
use Rattle.traces.proofs.OctetLemmas.{all_more}
use Rattle.traces.proofs.octets.blocks_end.Goals as goal

pub blocks-2-preserved : goal.blocks-2-preserved
blocks-2-preserved c = record {
  within = omega (arith, c.blocks-2-test.true, c.blocks-2.invariant.within);
  digits =
      sym (all_more c.args.text.now c.blocks-2.end 16 (c.blocks-2.end + 16 - c.blocks-2.end) true
      true
      (sym c.blocks-2.invariant.digits) (omega arith) c.if-not-is_each_digit.ensures);
}
