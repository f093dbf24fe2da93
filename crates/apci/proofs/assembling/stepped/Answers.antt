use Rattle.std.proofs.Common.{[], arith}
use Rattle.apci.proofs.Fronts.{no_start, s_second, s_third, u_second, u_third, u_fourth}
use Rattle.apci.proofs.EachOctet.{third_wrong}
use Rattle.apci.proofs.assembling.stepped.Goals as goal

pub returns-in-Start : goal.returns-in-Start
returns-in-Start c = rw c.in-Start.is (no_start c.args.octet [] c.if-octet-ne-START.true)

pub returns-in-IThird : goal.returns-in-IThird
returns-in-IThird c =
    let h = rw c.in-IThird.is at c.requires.right in
    rw c.in-IThird.is (third_wrong c.in-IThird.len c.in-IThird.ns c.args.octet h.1.0 h.1.1 h.2
    (omega (arith, c.ranges.octet.fits)) c.if-octet-eq1.true)

pub returns-in-SSecond : goal.returns-in-SSecond
returns-in-SSecond c = rw c.in-SSecond.is (s_second c.args.octet [] c.if-octet-ne0.true)

pub returns-in-USecond : goal.returns-in-USecond
returns-in-USecond c =
    rw c.in-USecond.is (u_second c.in-USecond.field-0 c.args.octet [] c.if-octet-ne0-2.true)

pub returns-in-SThird : goal.returns-in-SThird
returns-in-SThird c = rw c.in-SThird.is (s_third c.args.octet [] c.if-octet-eq1-2.true)

pub returns-in-UThird : goal.returns-in-UThird
returns-in-UThird c =
    rw c.in-UThird.is (u_third c.in-UThird.field-0 c.args.octet [] c.if-octet-ne0-3.true)

pub returns-in-UFourth : goal.returns-in-UFourth
returns-in-UFourth c =
    rw c.in-UFourth.is (u_fourth c.in-UFourth.field-0 c.args.octet [] c.if-octet-ne0-4.true)
