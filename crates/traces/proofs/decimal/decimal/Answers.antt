use Rattle.traces.proofs.NumberLemmas.{number_in_front}
use Rattle.traces.proofs.decimal.decimal.Goals as goal

pub returns-else-end-digits : goal.returns-else-end-digits
returns-else-end-digits c =
    number_in_front c.args.digits.now c.in_ok-value.value c.in_ok-value.end c.in_ok-value.ensures
    c.if-end-digits.false
