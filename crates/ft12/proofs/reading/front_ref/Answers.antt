use Rattle.std.proofs.Common.{ℕ, List, sym, subst, arith}
use Rattle.std.proofs.lemmas.List.{nil_from_length}
use Rattle.ft12.specs.declared.frame.Why.TheVariants.{Start}
use Rattle.ft12.specs.declared.frame.Front.TheVariants.{Never}
use Rattle.ft12.specs.Reading.{IsFront, IsProperBeginning}
use Rattle.ft12.proofs.Beginnings.{proper_nil}
use Rattle.ft12.proofs.Returns.{no_start}
use Rattle.ft12.proofs.reading.front_ref.Goals as goal

pub returns-in_default : goal.returns-in_default
returns-in_default c = subst (IsProperBeginning c.args.size)
    (sym (nil_from_length c.args.octets.now c.in_default.ensures.cases)) (proper_nil c.args.size)

pub returns-in_default-start : goal.returns-in_default-start
returns-in_default-start c =
    subst (λ (x : List ℕ). IsFront c.args.size x (Never 0 Start)) (sym c.in-Some.ensures.cases.0)
    (no_start c.args.size c.in-Some.start.now c.in-Some.rest.now (λ h. omega arith)
    (λ h. omega arith)
    (λ h. omega arith))
