use Rattle.std.proofs.Common.{arith}
use Rattle.traces.proofs.PrintLemmas.{pair_at}
use Rattle.traces.proofs.printing.pair_of.Goals as goal

pub returns-clause-high : goal.returns-clause-high
returns-clause-high c = (pair_at c.args.octet (omega arith)).0

pub returns-clause-low : goal.returns-clause-low
returns-clause-low c = (pair_at c.args.octet (omega arith)).1
