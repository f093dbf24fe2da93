use Rattle.std.proofs.Common.{◌∙◌}
use Rattle.gateway.proofs.Confirming.{on_map, confirm_in_time, confirms_end, stays_after}
use Rattle.gateway.proofs.Putting.{puts_none, puts_then, puts_ready}
use Rattle.gateway.proofs.engine.Gateway.send_confirmations.Goals as goal

pub returns-clause-in_time : goal.returns-clause-in_time
returns-clause-in_time g c =
    let law = c.calls_come_to_an_end.ensures.in_time_confirm in
    let s = c.args.self.now in
    let t = c.send_confirmation.new.self in
    let u = c.send_confirmation-2.new.self in
    let v = c.send_confirmation-3.new.self in
    on_map c.send_confirmation-3.result _ _
    (λ last. stays_after s u v
    (stays_after s t u (confirm_in_time law s t c.if-not-send_confirmation.ensures.next)
    (confirm_in_time law t u c.if-not-send_confirmation-2.ensures.next))
    (confirm_in_time law u v last))
    c.send_confirmation-3.ensures.next

pub returns-then-is_confirmed-clause-kept : goal.returns-then-is_confirmed-clause-kept
returns-then-is_confirmed-clause-kept g c = λ p unjudged phase flushing h. h

pub returns-then-is_confirmed-clause-puts : goal.returns-then-is_confirmed-clause-puts
returns-then-is_confirmed-clause-puts g c = puts_none

pub returns-then-not-send_confirmation-clause-kept :
    goal.returns-then-not-send_confirmation-clause-kept
returns-then-not-send_confirmation-clause-kept g c = c.if-not-send_confirmation.ensures.kept

pub returns-then-not-send_confirmation-clause-puts :
    goal.returns-then-not-send_confirmation-clause-puts
returns-then-not-send_confirmation-clause-puts g c = c.if-not-send_confirmation.ensures.puts

pub returns-then-is_confirmed-2-clause-kept : goal.returns-then-is_confirmed-2-clause-kept
returns-then-is_confirmed-2-clause-kept g c = c.if-not-send_confirmation.ensures.kept

pub returns-then-is_confirmed-2-clause-open : goal.returns-then-is_confirmed-2-clause-open
returns-then-is_confirmed-2-clause-open g c = c.if-not-send_confirmation.ensures.open

pub returns-then-is_confirmed-2-clause-in_time :
    goal.returns-then-is_confirmed-2-clause-in_time
returns-then-is_confirmed-2-clause-in_time g c =
    confirm_in_time c.calls_come_to_an_end.ensures.in_time_confirm c.args.self.now
    c.send_confirmation.new.self
    c.if-not-send_confirmation.ensures.next

pub returns-then-is_confirmed-2-clause-puts : goal.returns-then-is_confirmed-2-clause-puts
returns-then-is_confirmed-2-clause-puts g c = c.if-not-send_confirmation.ensures.puts

pub send_confirmation-requires-2 : goal.send_confirmation-requires-2
send_confirmation-requires-2 g c = puts_ready c.if-not-send_confirmation.ensures.puts c.requires

pub returns-then-not-send_confirmation-2-clause-kept :
    goal.returns-then-not-send_confirmation-2-clause-kept
returns-then-not-send_confirmation-2-clause-kept g c = λ p unjudged phase flushing h.
    c.if-not-send_confirmation-2.ensures.kept p unjudged phase flushing
    (c.if-not-send_confirmation.ensures.kept p unjudged phase flushing h)

pub returns-then-not-send_confirmation-2-clause-open :
    goal.returns-then-not-send_confirmation-2-clause-open
returns-then-not-send_confirmation-2-clause-open g c =
    c.if-not-send_confirmation-2.ensures.open ∙ c.if-not-send_confirmation.ensures.open

pub returns-then-not-send_confirmation-2-clause-puts :
    goal.returns-then-not-send_confirmation-2-clause-puts
returns-then-not-send_confirmation-2-clause-puts g c =
    puts_then c.if-not-send_confirmation.ensures.puts c.if-not-send_confirmation-2.ensures.puts

pub send_confirmation-requires-3 : goal.send_confirmation-requires-3
send_confirmation-requires-3 g c =
    puts_ready (puts_then c.if-not-send_confirmation.ensures.puts
    c.if-not-send_confirmation-2.ensures.puts) c.requires

pub returns-clause-kept : goal.returns-clause-kept
returns-clause-kept g c = λ p unjudged phase flushing h.
    c.send_confirmation-3.ensures.kept p unjudged phase flushing
    (c.if-not-send_confirmation-2.ensures.kept p unjudged phase flushing
    (c.if-not-send_confirmation.ensures.kept p unjudged phase flushing h))

pub returns-clause-open : goal.returns-clause-open
returns-clause-open g c =
    c.send_confirmation-3.ensures.open ∙ c.if-not-send_confirmation-2.ensures.open
    ∙ c.if-not-send_confirmation.ensures.open

pub returns-clause-confirmed : goal.returns-clause-confirmed
returns-clause-confirmed g c =
    let law = c.calls_come_to_an_end.ensures.confirmations in
    on_map c.send_confirmation-3.result _ _
    (confirms_end law c.args.self.now c.send_confirmation.new.self c.send_confirmation-2.new.self
    c.send_confirmation-3.new.self c.if-not-send_confirmation.ensures.next
    c.if-not-send_confirmation-2.ensures.next)
    c.send_confirmation-3.ensures.next

pub returns-clause-puts : goal.returns-clause-puts
returns-clause-puts g c =
    puts_then (puts_then c.if-not-send_confirmation.ensures.puts
    c.if-not-send_confirmation-2.ensures.puts)
    c.send_confirmation-3.ensures.puts
