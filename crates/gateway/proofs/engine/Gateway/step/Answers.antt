use Rattle.gateway.specs.Phases.{Asked}
use Rattle.gateway.proofs.Put.{logged_done, logged_leaves}
use Rattle.gateway.proofs.Confirming.{in_time_same}
use Rattle.gateway.proofs.Accounting.{step_accounted}
use Rattle.gateway.proofs.Events.{begins, logged_settled, still_logged}
use Rattle.gateway.proofs.Following.{step_follows}
use Rattle.gateway.proofs.engine.Gateway.step.Goals as goal

pub returns-clause-kept : goal.returns-clause-kept
returns-clause-kept g c = λ p h.
    let b = begins c.args.self.now c.advance_to.new.self c.receive_event-fits.new.self
    c.end_late_exchange.new.self
    c.args.now _
    c.receive_event-fits.result c.advance_to.ensures c.receive_event-fits.ensures
    c.end_late_exchange.ensures in
    let timed = logged_settled p _ c.report_gap.new.self c.run_command_timers.new.self
    c.run_command_timers.ensures
    (c.if-not-report_gap.ensures.kept p (c.if-not-take_connection_event.ensures.kept p
    c.args.self.now
    c.args.now b
    h)) in
    step_follows c.line_keeps_the_procedures.ensures p c.flush.result _ c.flush.new.self
    c.flush.ensures.confirmed
    c.flush.ensures.spent (c.flush.ensures.kept p _ Asked tt
    (c.if-not-send_request.ensures.kept p (c.if-not-close_if_late.ensures.kept p timed)))

pub returns-clause-rests : goal.returns-clause-rests
returns-clause-rests g c = λ p h.
    let b = begins c.args.self.now c.advance_to.new.self c.receive_event-fits.new.self
    c.end_late_exchange.new.self
    c.args.now _
    c.receive_event-fits.result c.advance_to.ensures c.receive_event-fits.ensures
    c.end_late_exchange.ensures in
    let timed = logged_settled p _ c.report_gap.new.self c.run_command_timers.new.self
    c.run_command_timers.ensures
    (c.if-not-report_gap.ensures.kept p (c.if-not-take_connection_event.ensures.kept p
    c.args.self.now
    c.args.now b
    h)) in
    let asked =
    c.if-not-send_request.ensures.kept p (c.if-not-close_if_late.ensures.kept p timed) in
    logged_done c.line_keeps_the_procedures.ensures p c.flush.result _ _ c.send_request.new.self
    c.flush.new.self
    c.flush.ensures.puts.events
    (in_time_same c.close_if_late.new.self c.send_request.new.self
    c.if-not-send_request.ensures.session
    c.if-not-send_request.ensures.moment
    c.if-not-close_if_late.ensures.in_time)
    asked c.flush.ensures.spent c.flush.ensures.confirmed c.flush.ensures.pulled
    c.flush.ensures.in_time
    (c.flush.ensures.kept p _ Asked tt asked)

pub returns-clause-faithful : goal.returns-clause-faithful
returns-clause-faithful g c = λ p h.
    let b = begins c.args.self.now c.advance_to.new.self c.receive_event-fits.new.self
    c.end_late_exchange.new.self
    c.args.now _
    c.receive_event-fits.result c.advance_to.ensures c.receive_event-fits.ensures
    c.end_late_exchange.ensures in
    let timed = logged_settled p _ c.report_gap.new.self c.run_command_timers.new.self
    c.run_command_timers.ensures
    (c.if-not-report_gap.ensures.kept p (c.if-not-take_connection_event.ensures.kept p
    c.args.self.now
    c.args.now b
    h)) in
    logged_leaves p c.flush.result _ c.flush.new.self Asked
    (c.flush.ensures.kept p _ Asked tt (c.if-not-send_request.ensures.kept p
    (c.if-not-close_if_late.ensures.kept p timed)))

pub returns-then-not-report_gap-clause-faithful : goal.returns-then-not-report_gap-clause-faithful
returns-then-not-report_gap-clause-faithful g c = λ p h.
    let b = begins c.args.self.now c.advance_to.new.self c.receive_event-fits.new.self
    c.end_late_exchange.new.self
    c.args.now _
    c.receive_event-fits.result c.advance_to.ensures c.receive_event-fits.ensures
    c.end_late_exchange.ensures in
    c.if-not-report_gap.ensures.kept p (c.if-not-take_connection_event.ensures.kept p
    c.args.self.now
    c.args.now b h)

pub close_if_late-requires-clause-logged : goal.close_if_late-requires-clause-logged
close_if_late-requires-clause-logged g c =
    still_logged c.report_gap.new.self c.run_command_timers.new.self c.run_command_timers.ensures
    c.if-not-report_gap.ensures.logged

pub returns-then-not-close_if_late-clause-faithful :
    goal.returns-then-not-close_if_late-clause-faithful
returns-then-not-close_if_late-clause-faithful g c = λ p h.
    let b = begins c.args.self.now c.advance_to.new.self c.receive_event-fits.new.self
    c.end_late_exchange.new.self
    c.args.now _
    c.receive_event-fits.result c.advance_to.ensures c.receive_event-fits.ensures
    c.end_late_exchange.ensures in
    c.if-not-close_if_late.ensures.kept p
    (logged_settled p _ c.report_gap.new.self c.run_command_timers.new.self
    c.run_command_timers.ensures
    (c.if-not-report_gap.ensures.kept p (c.if-not-take_connection_event.ensures.kept p
    c.args.self.now
    c.args.now b
    h)))

pub returns-then-not-send_request-clause-faithful :
    goal.returns-then-not-send_request-clause-faithful
returns-then-not-send_request-clause-faithful g c = λ p h.
    let b = begins c.args.self.now c.advance_to.new.self c.receive_event-fits.new.self
    c.end_late_exchange.new.self
    c.args.now _
    c.receive_event-fits.result c.advance_to.ensures c.receive_event-fits.ensures
    c.end_late_exchange.ensures in
    c.if-not-send_request.ensures.kept p (c.if-not-close_if_late.ensures.kept p
    (logged_settled p _ c.report_gap.new.self c.run_command_timers.new.self
    c.run_command_timers.ensures
    (c.if-not-report_gap.ensures.kept p (c.if-not-take_connection_event.ensures.kept p
    c.args.self.now
    c.args.now b
    h))))

pub returns-clause-accounts : goal.returns-clause-accounts
returns-clause-accounts g c = λ p h. step_accounted _ p _ _ (returns-clause-kept g c p h)
