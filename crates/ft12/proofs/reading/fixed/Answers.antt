use Rattle.std.proofs.Common.{arith}
use Rattle.std.proofs.lemmas.List.Elements.{All-from_get_or}
use Rattle.ft12.specs.Spelling.{IsOctet}
use Rattle.ft12.proofs.Returns.{fixed_more, fixed_sum, fixed_end}
use Rattle.ft12.proofs.reading.fixed.Goals as goal

pub returns-in-Incomplete : goal.returns-in-Incomplete
returns-in-Incomplete c = fixed_more c.args.size _ c.args.rest.now (omega arith)
    (All-from_get_or IsOctet c.args.rest.now 0 (λ i lt. omega (arith, c.type_inv.rest i)))
    c.in-Incomplete.ensures

pub returns-in-WrongSum : goal.returns-in-WrongSum
returns-in-WrongSum c = fixed_sum c.args.size _ c.args.rest.now (omega arith)
    (All-from_get_or IsOctet c.args.rest.now 0 (λ i lt. omega (arith, c.type_inv.rest i)))
    c.in-WrongSum.ensures

pub returns-in-WrongEnd : goal.returns-in-WrongEnd
returns-in-WrongEnd c = fixed_end c.args.size _ c.args.rest.now (omega arith)
    (All-from_get_or IsOctet c.args.rest.now 0 (λ i lt. omega (arith, c.type_inv.rest i)))
    c.in-WrongEnd.ensures
