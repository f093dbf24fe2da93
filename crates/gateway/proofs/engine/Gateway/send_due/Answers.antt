use Rattle.std.proofs.Common.{ap, sym, subst}
use Rattle.apci.specs.Short.{apdu_of}
use Rattle.gateway.specs.State.{State}
use Rattle.gateway.specs.Agrees.{Tracks}
use Rattle.gateway.proofs.Put.{logged_put, sends_pulled, pulled_open, none_pulled}
use Rattle.gateway.proofs.Confirming.{pulled_next}
use Rattle.gateway.proofs.Confirming.{on_true}
use Rattle.gateway.proofs.engine.Gateway.send_due.Goals as goal

pub returns-in-None-clause-kept : goal.returns-in-None-clause-kept
returns-in-None-clause-kept g c = λ p unjudged phase flushing clear h.
    subst (λ x. Tracks p x (g.P.Port.log c.args.port.now) unjudged phase)
    (sym (none_pulled c.args.self.now c.pull.new.self c.in-None.ensures.due c.pull.ensures.rest)) h

pub returns-in-None-clause-open : goal.returns-in-None-clause-open
returns-in-None-clause-open g c = pulled_open _ _ _ _ c.pull.ensures.due

pub returns-in-None-clause-next : goal.returns-in-None-clause-next
returns-in-None-clause-next g c = pulled_next c.args.self.now c.pull.new.self _ c.pull.ensures.due
    c.pull.ensures.rest

pub returns-in-Some-clause-kept : goal.returns-in-Some-clause-kept
returns-in-Some-clause-kept g c = λ p unjudged phase flushing clear h.
    logged_put c.hand_short.result p _ _ c.args.self.now c.pull.new.self
    (apdu_of c.in-Some.apdu) _ unjudged phase c.hand_short.ensures.logged
    (ap (λ (x : State). x.moment) c.pull.ensures.rest)
    (sends_pulled c.args.self.now c.pull.new.self (apdu_of c.in-Some.apdu) clear
    c.in-Some.ensures.fits
    c.in-Some.ensures.due
    c.pull.ensures.rest p unjudged phase flushing) h

pub returns-in-Some-clause-open : goal.returns-in-Some-clause-open
returns-in-Some-clause-open g c = pulled_open _ _ _ _ c.pull.ensures.due

pub returns-in-Some-clause-next : goal.returns-in-Some-clause-next
returns-in-Some-clause-next g c = on_true c.hand_short.result _
    (pulled_next c.args.self.now c.pull.new.self _ c.pull.ensures.due c.pull.ensures.rest)
