use Rattle.std.proofs.Common.{◌≡◌, ◌≤◌, true, Some, subst}
use Rattle.link.specs.Exchanges.{Sending}
use Rattle.link.specs.Leave.{is_poll_request}
use Rattle.events.specs.Queue.{free_places}
use Rattle.gateway.specs.Polls.{has_room}
use Rattle.gateway.specs.Serial.{next_request, waiting_in}
use Rattle.gateway.specs.State.{State}
use Rattle.gateway.proofs.Sound.{asked_sound, poll_room}
use Rattle.gateway.proofs.engine.Gateway.next_request.Goals as goal

pub invariant_of-self : goal.invariant_of-self
invariant_of-self c =
    let old = c.self.inside in
    asked_sound old.serial.line c.next.new.self.line old.centre.queue c.has_room-may_poll.result
    c.has_room-may_poll.ensures c.next.ensures.polls c.self.invariant

pub returns-clause-room : goal.returns-clause-room
returns-clause-room c =
    let a = c.self.inside in
    subst (λ (s : State). (x : Sending) → next_request (has_room s.centre.queue) s.serial ≡ Some x
    → is_poll_request x.request ≡ true → 3 ≤ free_places s.centre.queue) c.self.view_is
    (λ x is poll. poll_room c.polls_wait_for_leave.ensures.without a.serial.line
    (waiting_in a.serial.commands) a.centre.queue x c.self.invariant is poll)
