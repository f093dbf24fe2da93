use Rattle.std.proofs.Common.{arith}
use Rattle.traces.proofs.PrintLemmas.{digits_of_values}
use Rattle.traces.proofs.printing.both_digits.Goals as goal

pub returns-clause-high : goal.returns-clause-high
returns-clause-high c =
    (digits_of_values c.args.octet c.from.result c.from-2.result (omega arith) c.from.ensures
    c.from-2.ensures).0

pub returns-clause-low : goal.returns-clause-low
returns-clause-low c =
    (digits_of_values c.args.octet c.from.result c.from-2.result (omega arith) c.from.ensures
    c.from-2.ensures).1
