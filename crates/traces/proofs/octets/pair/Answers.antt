use Rattle.traces.proofs.PairLemmas.{pair_of_values}
use Rattle.traces.proofs.octets.pair.Goals as goal

pub returns : goal.returns
returns c =
    pair_of_values c.args.high c.args.low c.high_value_of.result c.value_of.result
    c.high_value_of.ensures
    c.value_of.ensures
