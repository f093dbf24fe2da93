use Rattle.apci.specs.Borrowed.{owned}
use Rattle.std.proofs.Common.{arith, ◌≤◌, ap, subst, length, length-drop}
use Rattle.session.specs.Session.{Session, from_queue}
use Rattle.events.specs.Queue.{Queue, free_places}
use Rattle.gateway.specs.Centre.{Centre}
use Rattle.gateway.proofs.Acknowledging.{taken_counts}
use Rattle.gateway.proofs.Sound.{less_kept}
use Rattle.gateway.proofs.engine.centre.CentreSide.take_frame.Goals as goal

pub invariant_of-self : goal.invariant_of-self
invariant_of-self c =
    let old = c.self.inside in
    record {
      counted = omega (
        arith,
        taken_counts (owned c.args.apdu) c.args.moment old.session,
        ap (λ (s : Session). from_queue s.unacknowledged) c.take_ref-taken.ensures.session,
        ap (λ (s : Session). s.acked_queue) c.take_ref-taken.ensures.session,
        ap (λ p. p.0) c.acked-pieces.ensures,
        ap (λ (q : Queue). length q.sent) c.acknowledge.ensures,
        length-drop c.acked-pieces.result.0 old.queue.sent,
        c.self.invariant.counted,
      );
      listens = c.self.invariant.listens;
    }

pub returns-clause-places : goal.returns-clause-places
returns-clause-places c =
    let old = c.self.inside in
    subst (λ (x : Centre). free_places x.queue ≤ free_places c.acknowledge.new.self) c.self.view_is
    (less_kept c.acked-pieces.result.0 old.queue c.acknowledge.new.self c.acknowledge.ensures)
