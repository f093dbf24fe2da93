use Rattle.std.proofs.Common.{ap, sym, subst, ◌∙◌, true, false, None}
use Rattle.apci.specs.Short.{apdu_of}
use Rattle.gateway.specs.State.{State}
use Rattle.gateway.specs.Agrees.{Tracks}
use Rattle.gateway.proofs.Put.{logged_put, sends_pulled, pulled_open, pulled_spent}
use Rattle.gateway.proofs.Confirming.{pulled_next}
use Rattle.gateway.proofs.Put.{none_pulled, none_left}
use Rattle.gateway.proofs.Confirming.{on_map, pull_in_time, pull_confirmed}
use Rattle.gateway.proofs.Confirming.{pull_ends, pull_clear, pull_spent, stays_after}
use Rattle.gateway.proofs.Putting.{puts_none, puts_then, puts_ready}
use Rattle.gateway.proofs.engine.Gateway.send_dues.Goals as goal

pub returns-in-None-clause-kept : goal.returns-in-None-clause-kept
returns-in-None-clause-kept g c = λ p unjudged phase flushing clear h.
    subst (λ x. Tracks p x (g.P.Port.log c.args.port.now) unjudged phase)
    (sym (none_pulled c.args.self.now c.pull.new.self c.in-None.ensures.due c.pull.ensures.rest)) h

pub returns-in-None-clause-open : goal.returns-in-None-clause-open
returns-in-None-clause-open g c = pulled_open _ _ _ _ c.pull.ensures.due

pub returns-in-None-clause-spent : goal.returns-in-None-clause-spent
returns-in-None-clause-spent g c =
    pulled_spent None c.args.self.now c.pull.new.self c.in-None.ensures.due c.pull.ensures.rest

pub returns-in-None-clause-confirmed : goal.returns-in-None-clause-confirmed
returns-in-None-clause-confirmed g c =
    pull_confirmed c.calls_come_to_an_end.ensures.confirmed_pull c.args.self.now c.pull.new.self
    (pulled_next c.args.self.now c.pull.new.self _ c.pull.ensures.due c.pull.ensures.rest)

pub returns-in-None-clause-pulled : goal.returns-in-None-clause-pulled
returns-in-None-clause-pulled g c =
    none_left c.args.self.now c.pull.new.self c.in-None.ensures.due c.pull.ensures.rest

pub returns-in-None-clause-in_time : goal.returns-in-None-clause-in_time
returns-in-None-clause-in_time g c =
    pull_in_time c.calls_come_to_an_end.ensures.in_time_pull c.args.self.now c.pull.new.self
    (pulled_next c.args.self.now c.pull.new.self _ c.pull.ensures.due c.pull.ensures.rest)

pub returns-then-hand_short-clause-kept : goal.returns-then-hand_short-clause-kept
returns-then-hand_short-clause-kept g c = λ p unjudged phase flushing clear h.
    let next = pulled_next c.args.self.now c.pull.new.self _ c.pull.ensures.due
    c.pull.ensures.rest in
    c.send_due.ensures.kept p unjudged phase flushing
    (pull_clear c.calls_come_to_an_end.ensures.confirmed_pull c.args.self.now c.pull.new.self next
    clear)
    (logged_put true p _ _ c.args.self.now c.pull.new.self
    (apdu_of c.in-Some.apdu) _ unjudged phase c.if-hand_short.ensures.logged
    (ap (λ (x : State). x.moment) c.pull.ensures.rest)
    (sends_pulled c.args.self.now c.pull.new.self (apdu_of c.in-Some.apdu) clear
    c.in-Some.ensures.fits
    c.in-Some.ensures.due
    c.pull.ensures.rest p unjudged phase flushing) h)

pub returns-then-hand_short-clause-confirmed : goal.returns-then-hand_short-clause-confirmed
returns-then-hand_short-clause-confirmed g c =
    let law = c.calls_come_to_an_end.ensures.confirmed_pull in
    on_map c.send_due.result _ _
    (λ last h. pull_confirmed law c.pull.new.self c.send_due.new.self last
    (pull_confirmed law c.args.self.now c.pull.new.self
    (pulled_next c.args.self.now c.pull.new.self _ c.pull.ensures.due c.pull.ensures.rest) h))
    c.send_due.ensures.next

pub returns-then-hand_short-clause-pulled : goal.returns-then-hand_short-clause-pulled
returns-then-hand_short-clause-pulled g c =
    on_map c.send_due.result _ _
    (pull_ends c.calls_come_to_an_end.ensures.pulls c.args.self.now c.pull.new.self
    c.send_due.new.self
    (pulled_next c.args.self.now c.pull.new.self _ c.pull.ensures.due c.pull.ensures.rest))
    c.send_due.ensures.next

pub returns-then-hand_short-clause-in_time : goal.returns-then-hand_short-clause-in_time
returns-then-hand_short-clause-in_time g c =
    let law = c.calls_come_to_an_end.ensures.in_time_pull in
    on_map c.send_due.result _ _
    (λ last. stays_after c.args.self.now c.pull.new.self c.send_due.new.self
    (pull_in_time law c.args.self.now c.pull.new.self
    (pulled_next c.args.self.now c.pull.new.self _ c.pull.ensures.due c.pull.ensures.rest))
    (pull_in_time law c.pull.new.self c.send_due.new.self last))
    c.send_due.ensures.next

pub returns-else-hand_short-clause-kept : goal.returns-else-hand_short-clause-kept
returns-else-hand_short-clause-kept g c = λ p unjudged phase flushing clear h.
    logged_put false p _ _ c.args.self.now c.pull.new.self
    (apdu_of c.in-Some.apdu) _ unjudged phase c.if-hand_short.ensures.logged
    (ap (λ (x : State). x.moment) c.pull.ensures.rest)
    (sends_pulled c.args.self.now c.pull.new.self (apdu_of c.in-Some.apdu) clear
    c.in-Some.ensures.fits
    c.in-Some.ensures.due
    c.pull.ensures.rest p unjudged phase flushing) h

pub returns-in-None-clause-puts : goal.returns-in-None-clause-puts
returns-in-None-clause-puts g c = puts_none

pub send_due-requires : goal.send_due-requires
send_due-requires g c = puts_ready c.if-hand_short.ensures.puts c.requires

pub returns-then-hand_short-clause-open : goal.returns-then-hand_short-clause-open
returns-then-hand_short-clause-open g c = c.send_due.ensures.open
    ∙ pulled_open _ _ _ _ c.pull.ensures.due

pub returns-then-hand_short-clause-spent : goal.returns-then-hand_short-clause-spent
returns-then-hand_short-clause-spent g c =
    on_map c.send_due.result _ _
    (λ last spent. pull_spent c.pull.new.self c.send_due.new.self last
    (pull_spent c.args.self.now c.pull.new.self
    (pulled_next c.args.self.now c.pull.new.self _ c.pull.ensures.due c.pull.ensures.rest) spent))
    c.send_due.ensures.next

pub returns-then-hand_short-clause-puts : goal.returns-then-hand_short-clause-puts
returns-then-hand_short-clause-puts g c =
    puts_then c.if-hand_short.ensures.puts c.send_due.ensures.puts

pub returns-else-hand_short-clause-open : goal.returns-else-hand_short-clause-open
returns-else-hand_short-clause-open g c = pulled_open _ _ _ _ c.pull.ensures.due

pub returns-else-hand_short-clause-spent : goal.returns-else-hand_short-clause-spent
returns-else-hand_short-clause-spent g c = tt

pub returns-else-hand_short-clause-confirmed : goal.returns-else-hand_short-clause-confirmed
returns-else-hand_short-clause-confirmed g c = tt

pub returns-else-hand_short-clause-pulled : goal.returns-else-hand_short-clause-pulled
returns-else-hand_short-clause-pulled g c = tt

pub returns-else-hand_short-clause-in_time : goal.returns-else-hand_short-clause-in_time
returns-else-hand_short-clause-in_time g c = tt

pub returns-else-hand_short-clause-puts : goal.returns-else-hand_short-clause-puts
returns-else-hand_short-clause-puts g c = c.if-hand_short.ensures.puts
