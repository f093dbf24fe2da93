use Rattle.std.proofs.Common.{ap, sym, subst}
use Rattle.apci.specs.Short.{apdu_of}
use Rattle.gateway.specs.State.{State}
use Rattle.gateway.specs.Agrees.{Tracks}
use Rattle.gateway.proofs.Put.{logged_put, sends_confirmation, confirmed_open}
use Rattle.gateway.proofs.Confirming.{confirmed_next}
use Rattle.gateway.proofs.Put.{no_confirmation}
use Rattle.gateway.proofs.Confirming.{on_true}
use Rattle.gateway.proofs.engine.Gateway.send_confirmation.Goals as goal

pub returns-in-None-clause-kept : goal.returns-in-None-clause-kept
returns-in-None-clause-kept g c = λ p unjudged phase flushing h.
    subst (λ x. Tracks p x (g.P.Port.log c.args.port.now) unjudged phase)
    (sym (no_confirmation c.args.self.now c.confirm.new.self c.in-None.ensures.due
    c.confirm.ensures.rest)) h

pub returns-in-None-clause-open : goal.returns-in-None-clause-open
returns-in-None-clause-open g c = confirmed_open _ _ _ c.confirm.ensures.due

pub returns-in-None-clause-next : goal.returns-in-None-clause-next
returns-in-None-clause-next g c =
    confirmed_next c.args.self.now c.confirm.new.self _ c.confirm.ensures.due c.confirm.ensures.rest

pub returns-in-Some-clause-kept : goal.returns-in-Some-clause-kept
returns-in-Some-clause-kept g c = λ p unjudged phase flushing h.
    logged_put c.hand_short.result p _ _ c.args.self.now c.confirm.new.self
    (apdu_of c.in-Some.apdu) _ unjudged phase c.hand_short.ensures.logged
    (ap (λ (x : State). x.moment) c.confirm.ensures.rest)
    (sends_confirmation c.args.self.now c.confirm.new.self
    (apdu_of c.in-Some.apdu) c.in-Some.ensures.fits c.in-Some.ensures.due
    c.confirm.ensures.rest p unjudged phase flushing) h

pub returns-in-Some-clause-open : goal.returns-in-Some-clause-open
returns-in-Some-clause-open g c = confirmed_open _ _ _ c.confirm.ensures.due

pub returns-in-Some-clause-next : goal.returns-in-Some-clause-next
returns-in-Some-clause-next g c = on_true c.hand_short.result _
    (confirmed_next c.args.self.now c.confirm.new.self _ c.confirm.ensures.due
    c.confirm.ensures.rest)
