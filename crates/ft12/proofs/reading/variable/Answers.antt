use Rattle.std.proofs.Common.{◌≡◌, ◌∷◌, ◌∙◌, sym, ap, subst, List, ℕ, [], arith}
use Rattle.std.proofs.lemmas.List.{nil_from_length}
use Rattle.ft12.specs.declared.frame.Why.TheVariants.{LengthsDiffer, SecondStart, LengthSmall}
use Rattle.ft12.specs.declared.frame.Front.TheVariants.{Never}
use Rattle.ft12.specs.Reading.{IsFront, IsProperBeginning}
use Rattle.ft12.proofs.Returns.{first_octet, header_1, header_2, header_3, length_small}
use Rattle.ft12.proofs.Returns.{lengths_differ, start_differs}
use Rattle.ft12.proofs.reading.variable.Goals as goal

pub returns-in_default : goal.returns-in_default
returns-in_default c =
    subst (λ (x : List ℕ). IsProperBeginning c.args.size (0x68 ∷ x))
    (sym (nil_from_length c.args.rest.now c.in_default.ensures.cases)) (header_1 c.args.size)

pub returns-then-from-octets : goal.returns-then-from-octets
returns-then-from-octets c =
    subst (λ (x : List ℕ). IsFront c.args.size (0x68 ∷ x) (Never 1 LengthSmall))
    (sym c.in-Some.ensures.cases.0)
    (length_small c.args.size _ _ (omega arith))

pub returns-in_default-split_first : goal.returns-in_default-split_first
returns-in_default-split_first c =
    let octet = first_octet c.args.rest.now _ _ c.in-Some.ensures.cases.0
    (omega (arith, c.type_inv.rest 0)) in
    let none : c.in-Some.rest.now ≡ [] = nil_from_length _ c.in_default-split_first.ensures.cases in
    subst (λ (x : List ℕ). IsProperBeginning c.args.size (0x68 ∷ x))
    (sym (c.in-Some.ensures.cases.0 ∙ ap (λ (x : List ℕ). c.in-Some.len.now ∷ x) none))
    (header_2 c.args.size c.in-Some.len.now octet (omega arith))

pub returns-then-again-len : goal.returns-then-again-len
returns-then-again-len c =
    let octet = first_octet c.args.rest.now _ _ c.in-Some.ensures.cases.0
    (omega (arith, c.type_inv.rest 0)) in
    subst (λ (x : List ℕ). IsFront c.args.size (0x68 ∷ x) (Never 2 LengthsDiffer))
    (sym (c.in-Some.ensures.cases.0 ∙ ap (λ (x : List ℕ). c.in-Some.len.now
    ∷ x) c.in-Some-split_first.ensures.cases.0))
    (lengths_differ c.args.size c.in-Some.len.now _ _ octet (omega arith) c.if-again-len.true)

pub returns-in_default-split_first-2 : goal.returns-in_default-split_first-2
returns-in_default-split_first-2 c =
    let octet = first_octet c.args.rest.now _ _ c.in-Some.ensures.cases.0
    (omega (arith, c.type_inv.rest 0)) in
    let none : c.in-Some-split_first.rest.now ≡ [] =
    nil_from_length _ c.in_default-split_first-2.ensures.cases in
    let again : c.in-Some.rest.now ≡ c.in-Some.len.now ∷ [] = c.in-Some-split_first.ensures.cases.0
    ∙ rw (none, c.if-again-len.false) in
    subst (λ (x : List ℕ). IsProperBeginning c.args.size (0x68 ∷ x))
    (sym (c.in-Some.ensures.cases.0 ∙ ap (λ (x : List ℕ). c.in-Some.len.now ∷ x) again))
    (header_3 c.args.size c.in-Some.len.now octet (omega arith))

pub returns-then-start-ne-START_DATA : goal.returns-then-start-ne-START_DATA
returns-then-start-ne-START_DATA c =
    let octet = first_octet c.args.rest.now _ _ c.in-Some.ensures.cases.0
    (omega (arith, c.type_inv.rest 0)) in
    let again : c.in-Some.rest.now ≡ c.in-Some.len.now ∷ c.in-Some-split_first-2.start.now
    ∷ c.in-Some-split_first-2.rest.now =
    c.in-Some-split_first.ensures.cases.0
    ∙ rw (c.if-again-len.false, c.in-Some-split_first-2.ensures.cases.0) in
    subst (λ (x : List ℕ). IsFront c.args.size (0x68 ∷ x) (Never 3 SecondStart))
    (sym (c.in-Some.ensures.cases.0 ∙ ap (λ (x : List ℕ). c.in-Some.len.now ∷ x) again))
    (start_differs c.args.size c.in-Some.len.now _ _ octet (omega arith)
    c.if-start-ne-START_DATA.true)
