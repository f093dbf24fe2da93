use Rattle.std.proofs.Common.{◌≡◌, ◌∙◌, sym, ap, subst, rules, true, Some}
use Rattle.ft12.specs.Borrowed.{owned}
use Rattle.ft12.specs.declared.frame.Frame.{Frame}
use Rattle.ft12.specs.declared.frame.Front.TheVariants.{Whole}
use Rattle.ft12.specs.Fronts.{front_of}
use Rattle.link.specs.Exchanges.{whole_of}
use Rattle.link.specs.Holding.{is_at_front, noted}
use Rattle.link.specs.Primary.{Primary, answered_with, answer_outcome}
use Rattle.link.proofs.Receiving.{received_at_front}
use Rattle.link.proofs.master.Master.receive_whole.Goals as goal

pub returns-clause-whole : goal.returns-clause-whole
returns-clause-whole c =
    let p : Primary = c.args.self.now in
    let octets = c.args.octets.now in
    let frame : Frame = owned c.in-Whole.frame in
    let free : is_at_front p ≡ true = search (rules, c.if-not-is_at_front.ensures) in
    let whole : whole_of (front_of p.settings.size octets) ≡ Some frame =
    subst (λ (q : Primary). whole_of (front_of q.settings.size octets) ≡ Some frame) c.self.view_is
    (sym (ap whole_of (c.front_is_computed.ensures.only _ octets (Whole frame c.in-Whole.field-1)
    c.in-Whole.ensures))) in
    let arrived = received_at_front (front_of p.settings.size) p octets frame free whole in
    let noted_is : c.note.new.self ≡ noted octets p = search (rules, c.note.ensures) in (
      c.receive.ensures.state ∙ ap (λ (q : Primary). answered_with q q.outstanding frame) noted_is
          ∙ arrived.0,
      c.receive.ensures.outcome ∙ ap (λ (q : Primary). answer_outcome q q.outstanding frame)
          noted_is
          ∙ arrived.1,
    )
