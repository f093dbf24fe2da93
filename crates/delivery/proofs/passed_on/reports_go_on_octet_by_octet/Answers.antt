use Rattle.std.proofs.Common.{◌≡◌, ℕ, ◌≤◌, ◌<◌, ◌/◌, ◌%◌, Bool, true, false, List, length, drop}
use Rattle.std.proofs.Common.{take, ◌++◌}
use Rattle.std.proofs.Common.{ap, sym, ◌∙◌, subst, arith, refl}
use Rattle.std.specs.Prelude.{slice_get, slice_index, if◌then◌else◌}
use Rattle.std.specs.List.{flat_map, AllByRecursion}
use Rattle.asdu.specs.Asdu.{Info}
use Rattle.asdu.specs.Layout.{common_address_place, object_address_at, objects_place}
use Rattle.asdu.specs.Translation.{report_pieces}
use Rattle.gateway.specs.Objects.{pieces_of_report}
use Rattle.gateway.specs.Works.{IsPassedOn}
use Rattle.delivery.specs.Answers.{cause_in_two, common_address_in_two}
use Rattle.delivery.specs.Bodies.{BeginAt}
use Rattle.delivery.proofs.Bodies.{begins, carried_apart, carried_together, headed}
use Rattle.delivery.proofs.Bodies.{some_first}
use Rattle.delivery.proofs.FullPieces.{each_one}
use Rattle.delivery.proofs.passed_on.reports_go_on_octet_by_octet.Goals as goal

pub returns-clause-one : goal.returns-clause-one
returns-clause-one c = λ sizes u report is kind other one.
    let law = c.pieces_carry_the_report.ensures in
    let passed : IsPassedOn sizes u report (report_pieces u) = record {
      value = is;
      joined = law.joined sizes u report is;
      each = law.pieces sizes u report is;
      full = law.full sizes u report is;
      number = law.number sizes u report is;
    } in
    (c.reports_of_monitor_types_are_passed_on.ensures.pieces sizes u report is kind other).0
    ∙ c.answers_are_passed_on_as_they_came.ensures.one sizes u report (report_pieces u) passed one

pub returns-clause-heads : goal.returns-clause-heads
returns-clause-heads c = λ sizes u report is kind other.
    let law = c.pieces_carry_the_report.ensures in
    let passed : IsPassedOn sizes u report (report_pieces u) = record {
      value = is;
      joined = law.joined sizes u report is;
      each = law.pieces sizes u report is;
      full = law.full sizes u report is;
      number = law.number sizes u report is;
    } in
    let same : pieces_of_report sizes report ≡ report_pieces u =
    (c.reports_of_monitor_types_are_passed_on.ensures.pieces sizes u report is kind other).0 in
    subst (λ (pieces : List (List ℕ)). AllByRecursion (λ piece.
    (slice_index piece 0 ≡ slice_index report 0)
    × (slice_index piece 1 / 128 ≡ slice_index report 1 / 128)
    × (slice_index piece 2 ≡ slice_index report 2) × (length piece ≤ 249)) pieces) (sym same)
    (each_one (λ piece h. (h.0.kind, h.0.sequence, h.0.cause, h.1)) (report_pieces u)
    (c.answers_are_passed_on_as_they_came.ensures.heads sizes u report (report_pieces u) passed))

-- SQ is bit 7
apart_if : (b : Bool) (n : ℕ) → n / 128 ≡ (if b then 1 else 0) → n < 128 → b ≡ false
apart_if false n e low = refl
apart_if true n e low = absurd (omega (arith, e, low))

together_if : (b : Bool) (n : ℕ) → n / 128 ≡ (if b then 1 else 0) → 128 ≤ n → b ≡ true
together_if true n e high = refl
together_if false n e high = absurd (omega (arith, e, high))

pub returns-clause-apart : goal.returns-clause-apart
returns-clause-apart c = λ sizes u report is kind other low.
    let laid = c.octets_stand_where_the_standard_has_them.ensures in
    let same : pieces_of_report sizes report ≡ report_pieces u =
    (c.reports_of_monitor_types_are_passed_on.ensures.pieces sizes u report is kind other).0 in
    let number : slice_index report 1 % 128 ≡ length u.infos = laid.number sizes u report is in
    ap (λ (ps : List (List ℕ)). flat_map (λ (piece : List ℕ). drop 6 piece) ps) same
    ∙ carried_apart sizes u report is
    (apart_if u.sequence (slice_index report 1) (laid.sequence sizes u report is) low)
    (slice_index report 1) (omega (arith, number, low))

pub returns-clause-together : goal.returns-clause-together
returns-clause-together c = λ sizes u report is kind other high.
    let laid = c.octets_stand_where_the_standard_has_them.ensures in
    let same : pieces_of_report sizes report ≡ report_pieces u =
    (c.reports_of_monitor_types_are_passed_on.ensures.pieces sizes u report is kind other).0 in
    let on : u.sequence ≡ true =
    together_if u.sequence (slice_index report 1) (laid.sequence sizes u report is) high in
    let first = some_first sizes u report is u.infos is.value.some in
    let stands = laid.together sizes u report is on 0 first.0
    (ap (λ (l : List Info). slice_get l 0) first.2) in
    let address : object_address_at sizes.ioa (objects_place sizes.cause sizes.ca) report
    ≡ first.0.address = omega (arith, stands.address) in (
      ap (λ (ps : List (List ℕ)). flat_map (λ (piece : List ℕ). drop 9 piece) ps) same
          ∙ carried_together sizes u report is on,
      subst (λ (ps : List (List ℕ)). BeginAt (object_address_at sizes.ioa
          (objects_place sizes.cause sizes.ca) report) ps) (sym same)
          (subst (λ (n : ℕ). BeginAt n (report_pieces u)) (sym address)
          (begins sizes u report is on first.0 first.1 first.2)),
    )

pub returns-clause-addresses : goal.returns-clause-addresses
returns-clause-addresses c = λ sizes u report is kind other.
    let same : pieces_of_report sizes report ≡ report_pieces u =
    (c.reports_of_monitor_types_are_passed_on.ensures.pieces sizes u report is kind other).0 in
    subst (λ (pieces : List (List ℕ)). AllByRecursion (λ piece. take 4 (drop 2 piece)
    ≡ cause_in_two sizes.cause report
    ++ common_address_in_two sizes.ca (common_address_place sizes.cause) report) pieces) (sym same)
    (each_one (λ piece h. headed sizes u report is piece h) (report_pieces u)
    (c.pieces_carry_the_report.ensures.pieces sizes u report is))
