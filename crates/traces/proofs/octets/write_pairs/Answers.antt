use Rattle.std.proofs.Common.{arith}
use Rattle.traces.proofs.PairLemmas.{pairs_are}
use Rattle.traces.proofs.octets.write_pairs.Goals as goal

pub returns-then-near-lt-NEAR_PAIRS : goal.returns-then-near-lt-NEAR_PAIRS
returns-then-near-lt-NEAR_PAIRS c =
    pairs_are c.args.text.now c.write_each-near.new.buf c.write_each-near.result (omega arith)
    (omega arith)
    (λ few less. c.write_each-near.ensures.over (omega (arith, few, less)))
    c.write_each-near.ensures.pairs

pub returns : goal.returns
returns c =
    pairs_are c.args.text.now c.write_each.new.buf c.write_each.result (omega arith) (omega arith)
    (λ few less. c.write_each.ensures.over (omega (arith, few, less))) c.write_each.ensures.pairs
