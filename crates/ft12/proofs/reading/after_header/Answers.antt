use Rattle.std.proofs.Common.{All, take, arith, subst}
use Rattle.std.proofs.lemmas.List.Elements.{All-from_get_or, All-take}
use Rattle.ft12.specs.Spelling.{IsOctet}
use Rattle.ft12.proofs.Returns.{variable_more, variable_sum, variable_end, variable_whole}
use Rattle.ft12.proofs.Returns.{octets_user}
use Rattle.ft12.proofs.reading.after_header.Goals as goal

pub returns-in-Incomplete : goal.returns-in-Incomplete
returns-in-Incomplete c =
    rw (← c.from-len.ensures) (variable_more c.args.size c.from-len.result c.args.rest.now
    (omega (arith, c.ranges.len.fits)) (omega arith) (All-from_get_or IsOctet c.args.rest.now 0
    (λ i lt. omega (arith, c.type_inv.rest i))) c.in-Incomplete.ensures)

pub returns-in-WrongSum : goal.returns-in-WrongSum
returns-in-WrongSum c =
    rw (← c.from-len.ensures) (variable_sum c.args.size c.from-len.result c.args.rest.now
    (omega (arith, c.ranges.len.fits)) (omega arith) (All-from_get_or IsOctet c.args.rest.now 0
    (λ i lt. omega (arith, c.type_inv.rest i))) c.in-WrongSum.ensures)

pub returns-in-WrongEnd : goal.returns-in-WrongEnd
returns-in-WrongEnd c =
    rw (← c.from-len.ensures) (variable_end c.args.size c.from-len.result c.args.rest.now
    (omega (arith, c.ranges.len.fits)) (omega arith) (All-from_get_or IsOctet c.args.rest.now 0
    (λ i lt. omega (arith, c.type_inv.rest i))) c.in-WrongEnd.ensures)

pub returns-in-Complete : goal.returns-in-Complete
returns-in-Complete c =
    let octets : All IsOctet (take c.from-len.result c.args.rest.now) =
    All-take IsOctet c.from-len.result c.args.rest.now
    (All-from_get_or IsOctet c.args.rest.now 0 (λ i lt. omega (arith, c.type_inv.rest i))) in
    let fits = octets_user c.args.size c.parts-c.result.0 c.parts-c.result.1 c.parts-c.result.2.now
    (subst (All IsOctet) c.parts-c.ensures.parts octets) in
    rw (← c.from-len.ensures) (variable_whole c.args.size c.from-len.result c.parts-c.result.0
    c.parts-c.result.1
    (record { items = c.parts-c.result.2.now }) c.args.rest.now (omega (arith, c.ranges.len.fits))
    c.parts-c.ensures.parts c.in-Complete.ensures
    (record { control = fits.0; address = c.parts-c.ensures.address })
    fits.1)
