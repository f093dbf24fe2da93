use Rattle.std.proofs.Common.{◌≡◌, ◌∷◌, ◌∙◌, sym, subst, List, ℕ, [], inl, arith}
use Rattle.std.proofs.lemmas.List.{nil_from_length}
use Rattle.apci.specs.declared.apdu.Why.TheVariants.{Start, Length, Control}
use Rattle.apci.specs.declared.apdu.Front.TheVariants.{More, Never}
use Rattle.apci.specs.Reading.{IsFront}
use Rattle.apci.proofs.Fronts.{nothing, start_alone, length_more, no_start, no_length, no_format}
use Rattle.apci.proofs.reading.octet_by_octet.Goals.{then-len-lt4-via-then-len-lt4}
use Rattle.apci.proofs.reading.octet_by_octet.Goals.{then-len-lt4-via-else-len-lt4+then-len-gt253}
use Rattle.apci.proofs.reading.octet_by_octet.Goals as goal

pub returns-in_default : goal.returns-in_default
returns-in_default c = subst (λ (x : List ℕ). IsFront x More)
    (sym (nil_from_length c.args.octets.now c.in_default.ensures.cases)) (inl nothing)

pub returns-then-start-ne-START : goal.returns-then-start-ne-START
returns-then-start-ne-START c = subst (λ (x : List ℕ). IsFront x (Never 0 Start))
    (sym c.in-Some.ensures.cases.0)
    (no_start c.in-Some.start.now c.in-Some.rest.now c.if-start-ne-START.true)

pub returns-in_default-split_first : goal.returns-in_default-split_first
returns-in_default-split_first c =
    let none : c.in-Some.rest.now ≡ [] = nil_from_length _ c.in_default-split_first.ensures.cases in
    let octets : c.args.octets.now ≡ 0x68 ∷ [] = c.in-Some.ensures.cases.0
    ∙ rw (c.if-start-ne-START.false, none) in
    subst (λ (x : List ℕ). IsFront x More) (sym octets) (inl start_alone)

pub returns-then-len-lt4 : goal.returns-then-len-lt4
returns-then-len-lt4 c =
    let octets : c.args.octets.now ≡ 0x68 ∷ c.in-Some-split_first.len.now
    ∷ c.in-Some-split_first.rest.now =
    c.in-Some.ensures.cases.0
    ∙ rw (c.if-start-ne-START.false, c.in-Some-split_first.ensures.cases.0) in
    subst (λ (x : List ℕ). IsFront x (Never 1 Length)) (sym octets)
    (no_length c.in-Some-split_first.len.now c.in-Some-split_first.rest.now (λ low high.
    elim c.then-len-lt4.branch [
      | then-len-lt4-via-then-len-lt4 w ↦ omega arith
      | then-len-lt4-via-else-len-lt4+then-len-gt253 w ↦ omega arith
    ]))

pub returns-in_default-split_first-2 : goal.returns-in_default-split_first-2
returns-in_default-split_first-2 c =
    let none : c.in-Some-split_first.rest.now ≡ [] =
    nil_from_length _ c.in_default-split_first-2.ensures.cases in
    let octets : c.args.octets.now ≡ 0x68 ∷ c.in-Some-split_first.len.now ∷ [] =
    c.in-Some.ensures.cases.0
    ∙ rw (c.if-start-ne-START.false, c.in-Some-split_first.ensures.cases.0, none) in
    subst (λ (x : List ℕ). IsFront x More) (sym octets)
    (length_more c.in-Some-split_first.len.now (omega arith) (omega arith))

pub returns-in-Unknown : goal.returns-in-Unknown
returns-in-Unknown c =
    let octets : c.args.octets.now ≡ 0x68 ∷ c.in-Some-split_first.len.now
    ∷ c.in-Some-split_first-2.control.now
    ∷ c.in-Some-split_first-2.rest.now =
    c.in-Some.ensures.cases.0 ∙ rw (
      c.if-start-ne-START.false,
      c.in-Some-split_first.ensures.cases.0,
      c.in-Some-split_first-2.ensures.cases.0,
    ) in
    let unknown = c.in-Unknown.ensures in
    subst (λ (x : List ℕ). IsFront x (Never 2 Control)) (sym octets)
    (no_format c.in-Some-split_first.len.now c.in-Some-split_first-2.control.now
    c.in-Some-split_first-2.rest.now
    (omega arith) (omega arith) unknown.0 unknown.1 unknown.2)
