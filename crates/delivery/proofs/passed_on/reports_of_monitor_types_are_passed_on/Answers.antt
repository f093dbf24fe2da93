use Rattle.std.specs.Prelude.{slice_index, ◌==◌, if◌then◌else◌}
use Rattle.std.proofs.Common.{◌≡◌, ℕ, ◌%◌, ◌⊎◌, Bool, false, List, [], length, ap, sym}
use Rattle.std.proofs.Common.{Option, subst, ◌∙◌, arith}
use Rattle.std.proofs.lemmas.Bool.{ne_eqb}
use Rattle.elements.specs.Types.{row, type_of}
use Rattle.elements.specs.declared.types.TypeId.{TypeId}
use Rattle.asdu.specs.InformationObjects.{InformationObject}
use Rattle.asdu.specs.Translation.{parts, report_pieces}
use Rattle.asdu.proofs.Related.{type_of-IsAsdu, value_at-IsAsdu}
use Rattle.gateway.specs.Objects.{monitor_objects, pieces_of_report, parts_of, typed_pieces}
use Rattle.delivery.proofs.passed_on.reports_of_monitor_types_are_passed_on.Goals as goal

pub returns-clause-passed : goal.returns-clause-passed
returns-clause-passed c = λ sizes u report is kind other.
    let cause = c.octets_stand_where_the_standard_has_them.ensures.cause sizes u report is in
    c.monitor_reports_are_passed_on.ensures.passed sizes u report is kind
    (λ e. other (ap (λ (n : ℕ). n % 128) cause ∙ e))
    ∙ sym (c.objects_are_those_of_the_asdu.ensures.objects sizes u report is)

pub returns-clause-pieces : goal.returns-clause-pieces
returns-clause-pieces c = λ sizes u report is kind other.
    let cause = c.octets_stand_where_the_standard_has_them.ensures.cause sizes u report is in
    let objects = c.monitor_reports_are_passed_on.ensures.passed sizes u report is kind
    (λ e. other (ap (λ (n : ℕ). n % 128) cause ∙ e))
    ∙ sym (c.objects_are_those_of_the_asdu.ensures.objects sizes u report is) in
    let number = c.objects_have_all_their_parts.ensures.number sizes u report is in
    let some : (length (monitor_objects sizes report) == 0) ≡ false =
    ne_eqb (length (monitor_objects sizes report)) 0
    (λ e. omega (
      arith,
      e,
      ap (λ (os : List InformationObject). length os) objects,
      number,
      is.value.some,
    )) in
    let pieces : pieces_of_report sizes report ≡ report_pieces u =
    ap (λ (b : Bool). if b then [] else typed_pieces sizes (type_of (slice_index report 0)) report)
    some
    ∙ ap (λ (t : Option TypeId). typed_pieces sizes t report) (type_of-IsAsdu sizes u report is)
    ∙ ap report_pieces (value_at-IsAsdu sizes u report is) in
    let count : parts_of sizes report ≡ parts sizes report =
    ap (λ (b : Bool). if b then 0 else parts sizes report) some in (
      pieces,
      count ∙ sym (c.pieces_carry_the_report.ensures.number sizes u report is)
          ∙ sym (ap (λ (l : List (List ℕ)). length l) pieces),
    )

pub returns-clause-kept_back : goal.returns-clause-kept_back
returns-clause-kept_back c = λ sizes u report is why.
    let cause = c.octets_stand_where_the_standard_has_them.ensures.cause sizes u report is in
    let none : monitor_objects sizes report ≡ [] =
    c.monitor_reports_are_passed_on.ensures.kept_back sizes u report is
    (subst (λ (n : ℕ). ((row u.kind).monitor ≡ false) ⊎ (n % 128 ≡ 108)) cause why) in (
      none,
      ap (λ (os : List InformationObject).
          if length os == 0 then [] else typed_pieces sizes (type_of (slice_index report 0)) report)
          none,
      ap (λ (os : List InformationObject). if length os == 0 then 0 else parts sizes report) none,
    )

pub returns-clause-unread : goal.returns-clause-unread
returns-clause-unread c = λ sizes report octets other.
    let law = c.objects_are_those_of_the_asdu.ensures in
    let none : monitor_objects sizes report ≡ [] =
    (law.nothing sizes report (law.not_read sizes report octets other)).1 in (
      none,
      ap (λ (os : List InformationObject).
          if length os == 0 then [] else typed_pieces sizes (type_of (slice_index report 0)) report)
          none,
      ap (λ (os : List InformationObject). if length os == 0 then 0 else parts sizes report) none,
    )
