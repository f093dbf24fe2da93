use Rattle.std.proofs.Common.{◌≡◌, ◌∷◌, [], ap, sym, ◌∙◌, None}
use Rattle.std.specs.Prelude.{if◌then◌else◌}
use Rattle.gateway.specs.Log.{with_news, Went, LineOut}
use Rattle.gateway.specs.Polls.{has_room}
use Rattle.link.specs.declared.request.Request.{Request}
use Rattle.gateway.specs.Serial.{next_request}
use Rattle.gateway.specs.State.{State, after_request}
use Rattle.gateway.proofs.Requesting.{next_is, none_is, asked_none, asked_leaves, awaiting_none}
use Rattle.gateway.proofs.Requesting.{awaiting_same}
use Rattle.gateway.proofs.engine.Gateway.send_request.Goals as goal

pub returns-in-None-clause-kept : goal.returns-in-None-clause-kept
returns-in-None-clause-kept g c = λ p h.
    let s : State = c.args.self.now in
    let none : next_request (has_room s.centre.queue) s.serial ≡ None =
    none_is s.serial.line _ (sym c.in-None.is ∙ c.next_request-next.ensures.request) in
    asked_none c.line_keeps_the_procedures.ensures p _ s c.next_request-next.new.self
    c.requires.logged c.requires.in_time none
    (c.next_request-next.ensures.state ∙ ap (after_request s) none) h

pub returns-in-Some-clause-kept : goal.returns-in-Some-clause-kept
returns-in-Some-clause-kept g c = λ p h.
    let s : State = c.args.self.now in
    let next = next_is s.serial.line (next_request (has_room s.centre.queue) s.serial)
    c.in-Some.request
    (sym c.in-Some.is ∙ c.next_request-next.ensures.request) in
    let put : g.P.Port.log c.put.new.self
    ≡ (if c.put.result then with_news (g.P.Port.log c.args.port.now)
    (Went c.moment.result (LineOut c.deref.result.now) ∷ []) else g.P.Port.log c.args.port.now) =
    c.put.ensures.logged in
    asked_leaves c.line_keeps_the_procedures.ensures c.put.result p (g.P.Port.log c.args.port.now)
    (g.P.Port.log c.put.new.self) s c.next_request-next.new.self next.0
    c.deref.result.now
    c.moment.result c.requires.logged c.requires.in_time next.1
    (c.next_request-next.ensures.room next.0 next.1)
    (c.deref.ensures.0 ∙ ap (λ (r : Request). r.octets.items) next.2) (c.moment.ensures
    ∙ ap (λ (x : State). x.moment) c.next_request-next.ensures.state)
    (c.next_request-next.ensures.state
    ∙ ap (after_request s) next.1) put h

pub returns-then-is_awaiting-clause-kept : goal.returns-then-is_awaiting-clause-kept
returns-then-is_awaiting-clause-kept g c = λ p h.
    let s : State = c.args.self.now in
    let some = sym c.is_awaiting.ensures ∙ c.if-is_awaiting.true in
    asked_none c.line_keeps_the_procedures.ensures p _ s s c.requires.logged c.requires.in_time
    (awaiting_none s.serial (has_room s.centre.queue) some) (awaiting_same s some) h
