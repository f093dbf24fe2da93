use Rattle.std.proofs.Common.{◌≡◌, ◌%◌, ◌<◌, ◌-◌, ℕ, inl, get_or, length, take, drop, refl, arith}
use Rattle.std.proofs.lemmas.List.Elements.{All-from_get_or}
use Rattle.arrayvec.specs.ArrayVec.{ArrayVec}
use Rattle.apci.specs.Spelling.{IsOctet}
use Rattle.apci.proofs.Fronts.{i_short, i_third, i_more, i_whole}
use Rattle.apci.proofs.reading.i_format.Goals.{else-rest-gt1-via-then-rest-gt1+else-rest-eq1}
use Rattle.apci.proofs.reading.i_format.Goals.{else-rest-gt1-via-else-rest-gt1}
use Rattle.apci.proofs.reading.i_format.Goals as goal

pub returns-then-len-lt13 : goal.returns-then-len-lt13
returns-then-len-lt13 c = i_short c.args.len c.args.control c.args.rest.now c.requires.long
    (omega arith) c.requires.even

pub returns-then-rest-eq1 : goal.returns-then-rest-eq1
returns-then-rest-eq1 c = i_third c.args.len c.args.control c.args.rest.now
    (omega arith) c.requires.short c.requires.even (omega (arith, c.ranges.control.fits))
    (All-from_get_or IsOctet c.args.rest.now 0 (λ i lt. omega (arith, c.type_inv.rest i)))
    c.if-rest-gt1.true
    c.if-rest-eq1.true

pub returns-then-rest-len : goal.returns-then-rest-len
returns-then-rest-len c =
    let even : 1 < length c.args.rest.now → get_or c.args.rest.now 1 0 % 2 ≡ 0 = λ lt.
    elim c.else-rest-gt1.branch [
      | else-rest-gt1-via-then-rest-gt1+else-rest-eq1 w ↦ omega arith
      | else-rest-gt1-via-else-rest-gt1 w ↦ absurd (omega arith)
    ] in
    inl (i_more c.args.len c.args.control c.args.rest.now (omega arith) c.requires.short
    c.requires.even
    (omega (arith, c.ranges.control.fits)) (All-from_get_or IsOctet c.args.rest.now 0
    (λ i lt. omega (arith, c.type_inv.rest i))) even (omega arith))

pub returns : goal.returns
returns c =
    let asdu : ArrayVec ℕ =
    record { items = take (c.from-len.result - 1 - 3) (drop 3 c.args.rest.now) } in
    rw (← c.from-len.ensures) (i_whole c.from-len.result c.args.control c.counter_of-ns.result
    c.counter_of-nr.result
    asdu c.args.rest.now (omega arith) (omega (arith, c.requires.short))
    (All-from_get_or IsOctet c.args.rest.now 0 (λ i lt. omega (arith, c.type_inv.rest i)))
    (omega arith) c.counter_of-ns.ensures.fits c.counter_of-nr.ensures.fits
    c.counter_of-ns.ensures.value
    c.counter_of-nr.ensures.value refl)
