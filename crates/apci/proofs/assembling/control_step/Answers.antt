use Rattle.std.proofs.Common.{[], ◌∷◌, ℕ, sym, subst, arith}
use Rattle.apci.specs.declared.apdu.Front.TheVariants.{Never}
use Rattle.apci.specs.declared.apdu.Why.TheVariants.{NotFour}
use Rattle.apci.specs.Reading.{IsFront}
use Rattle.apci.proofs.Fronts.{no_format, i_short, s_not_four, u_not_four}
use Rattle.apci.proofs.assembling.control_step.Goals as goal

pub returns-in-Unknown : goal.returns-in-Unknown
returns-in-Unknown c =
    let unknown = c.in-Unknown.ensures in
    no_format c.args.len c.args.octet [] c.requires.long c.requires.short unknown.0 unknown.1
    unknown.2

pub returns-then-len-lt13 : goal.returns-then-len-lt13
returns-then-len-lt13 c = i_short c.args.len c.args.octet [] c.requires.long (omega arith)
    c.in-I.ensures

pub returns-then-len-ne4 : goal.returns-then-len-ne4
returns-then-len-ne4 c = subst (λ (o : ℕ). IsFront (0x68 ∷ c.args.len ∷ o ∷ []) (Never 1 NotFour))
    (sym c.in-S.ensures)
    (s_not_four c.args.len [] c.requires.long c.requires.short c.if-len-ne4.true)

pub returns-then-len-ne4-2 : goal.returns-then-len-ne4-2
returns-then-len-ne4-2 c = subst (λ (o : ℕ). IsFront (0x68 ∷ c.args.len ∷ o ∷ []) (Never 1 NotFour))
    (sym c.in-U.ensures) (u_not_four c.args.len c.in-U.function [] c.requires.long c.requires.short
    c.if-len-ne4-2.true)
