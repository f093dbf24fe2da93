use Rattle.std.proofs.Common.{◌≡◌, ◌≤◌, length, true, false, not, ◌==◌, refl, ap, sym, subst, ◌∙◌}
use Rattle.elements.specs.Types.{row}
use Rattle.asdu.specs.Asdu.{AsduValue, IsAsdu}
use Rattle.asdu.specs.InformationObjects.{is_passed_on}
use Rattle.asdu.specs.Reading.{value_of}
use Rattle.asdu.specs.Translation.{report_pieces}
use Rattle.gateway.specs.declared.counts.Tally.{Tally}
use Rattle.gateway.specs.Serial.{Serial}
use Rattle.gateway.specs.Centre.{Centre}
use Rattle.gateway.specs.State.{State, with_serial, with_centre}
use Rattle.gateway.specs.Objects.{monitor_objects}
use Rattle.gateway.specs.Counting.{is_answer_type}
use Rattle.gateway.specs.Works.{is_command_report}
use Rattle.gateway.proofs.Kept.{keeps_report, keeps_none, pieces_read, counted_as, passed_counts}
use Rattle.gateway.proofs.Kept.{skipped_counts, command_as, passed_monitor, learns_kept}
use Rattle.gateway.proofs.engine.Gateway.take_report.Goals as goal

pub returns-then-is_passed_on : goal.returns-then-is_passed_on
returns-then-is_passed_on c =
    let a = c.self.inside in
    let s : State = record {
      serial = a.serial;
      centre = a.centre;
      sizes = a.sizes;
      moment = a.moment;
      wall =
          a.wall;
    } in
    let report = c.args.report.now in
    let asdu = c.in-Ok.asdu in
    let u : AsduValue = value_of asdu in
    let of_command : is_command_report s.sizes report ≡ false =
    command_as s.sizes report u c.in-Ok.ensures.objects c.in-Ok.ensures.found.value.some
    ∙ passed_monitor (row u.kind).monitor (row u.kind).tagged (is_passed_on u.kind u.cause)
    (not (u.cause == 108))
    (not (u.cause == 236)) refl (sym c.if-is_passed_on.ensures.value) in
    let found : IsAsdu s.sizes u report = c.in-Ok.ensures.found in
    let law = c.pieces_carry_the_report.ensures in
    let passed : 1 ≤ length (monitor_objects s.sizes report) =
    subst (λ z. 1 ≤ length (monitor_objects z report)) c.in-Ok.ensures.source.0
    (subst (λ x. 1 ≤ length (monitor_objects asdu.sizes x)) c.in-Ok.ensures.source.1
    (c.if-is_passed_on.ensures.passed refl)) in
    rw (← c.self.view_is) (learns_kept (is_command_report s.sizes report) s _ report true of_command
    (keeps_report s _ report (report_pieces u) (law.monitored s.sizes u report found)
    (law.some_monitored s.sizes u report found (sym c.if-is_passed_on.ensures.value))
    (law.number s.sizes u report found)
    (pieces_read s report asdu.octets.now asdu.sizes asdu.kind c.in-Ok.ensures.source.0
    c.in-Ok.ensures.source.1
    c.in-Ok.ensures.objects c.in-Ok.ensures.found.value.some passed)
    passed
    (counted_as s report asdu.octets.now asdu.sizes u c.in-Ok.ensures.source.0
    c.in-Ok.ensures.source.1
    c.in-Ok.ensures.objects c.in-Ok.ensures.found.value.some
    ∙ passed_counts (is_answer_type u.kind) (is_passed_on u.kind u.cause) s.serial.counts
    (sym c.if-is_passed_on.ensures.value))
    (ap (λ (x : Centre). with_centre x s) c.push.ensures))
    refl)

pub returns-then-not-is_answer : goal.returns-then-not-is_answer
returns-then-not-is_answer c =
    let a = c.self.inside in
    let s : State = record {
      serial = a.serial;
      centre = a.centre;
      sizes = a.sizes;
      moment = a.moment;
      wall =
          a.wall;
    } in
    let report = c.args.report.now in
    let asdu = c.in-Ok.asdu in
    let u : AsduValue = value_of asdu in
    let of_command : is_command_report s.sizes report ≡ false =
    command_as s.sizes report u c.in-Ok.ensures.objects c.in-Ok.ensures.found.value.some
    ∙ sym c.if-not-is_answer.ensures in
    rw (← c.self.view_is) (learns_kept (is_command_report s.sizes report) s _ report true of_command
    (keeps_none s _ report asdu.octets.now asdu.sizes c.in-Ok.ensures.source.0
    c.in-Ok.ensures.source.1
    (c.if-is_passed_on.ensures.kept refl)
    (ap (λ (x : Serial). with_serial x s) (c.skip-then-not-is_answer.ensures
    ∙ ap (λ (n : Tally). let made : Serial = record s.serial { counts = n } in
    made)
    (sym (counted_as s report asdu.octets.now asdu.sizes u c.in-Ok.ensures.source.0
    c.in-Ok.ensures.source.1
    c.in-Ok.ensures.objects c.in-Ok.ensures.found.value.some
    ∙ skipped_counts (is_answer_type u.kind) (is_passed_on u.kind u.cause) s.serial.counts
    (sym c.if-not-is_answer.ensures) (sym c.if-is_passed_on.ensures.value))))))
    refl)
