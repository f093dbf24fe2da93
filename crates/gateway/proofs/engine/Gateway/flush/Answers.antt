use Rattle.std.proofs.Common.{refl}
use Rattle.gateway.proofs.Confirming.{on_map, stays_after}
use Rattle.gateway.proofs.engine.Gateway.flush.Goals as goal

pub returns-then-has_sent_all-clause-kept : goal.returns-then-has_sent_all-clause-kept
returns-then-has_sent_all-clause-kept g c = λ p unjudged phase flushing h.
    c.send_dues.ensures.kept p unjudged phase flushing
    (record {
      confirmed = c.if-not-send_confirmations.ensures.confirmed;
      spent =
          c.if-has_sent_all.ensures.0 refl;
    })
    (c.if-not-send_confirmations.ensures.kept p unjudged phase flushing h)

pub returns-then-has_sent_all-clause-in_time : goal.returns-then-has_sent_all-clause-in_time
returns-then-has_sent_all-clause-in_time g c =
    on_map c.send_dues.result _ _
    (λ last. stays_after c.args.self.now c.send_confirmations.new.self c.send_dues.new.self
    c.if-not-send_confirmations.ensures.in_time last)
    c.send_dues.ensures.in_time

pub returns-clause-kept : goal.returns-clause-kept
returns-clause-kept g c = λ p unjudged phase flushing h.
    let confirmed = c.if-not-send_confirmations.ensures.confirmed in
    c.send_dues-2.ensures.kept p unjudged phase flushing
    (record {
      confirmed = c.if-not-send_data.ensures.confirmed confirmed;
      spent =
          c.if-not-send_data.ensures.spent;
    }) (c.if-not-send_data.ensures.kept p unjudged phase flushing confirmed
    (c.if-not-send_confirmations.ensures.kept p unjudged phase flushing h))

pub returns-clause-in_time : goal.returns-clause-in_time
returns-clause-in_time g c =
    on_map c.send_dues-2.result _ _
    (λ last. stays_after c.args.self.now c.send_data.new.self c.send_dues-2.new.self
    (stays_after c.args.self.now c.send_confirmations.new.self c.send_data.new.self
    c.if-not-send_confirmations.ensures.in_time c.if-not-send_data.ensures.in_time) last)
    c.send_dues-2.ensures.in_time
