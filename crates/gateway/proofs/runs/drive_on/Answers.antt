use Rattle.std.proofs.Common.{◌∙◌, ◌+◌, sym, subst, arith}
use Rattle.gateway.specs.Agrees.{Follows, Rests}
use Rattle.std.specs.Prelude.{IfSome}
use Rattle.gateway.specs.Order.{KeepsOrder}
use Rattle.gateway.specs.Runs.{MoreEvents}
use Rattle.gateway.specs.Traffic.{IsFaithful}
use Rattle.gateway.specs.Setups.{setup_of}
use Rattle.gateway.proofs.Starting.{of_logged}
use Rattle.gateway.proofs.Accounting.{accounted, ordered, ends_accounted, logged_same}
use Rattle.gateway.proofs.Accounting.{unless_device}
use Rattle.gateway.proofs.Following.{come, more_events}
use Rattle.gateway.proofs.runs.drive_on.Goals as goal

pub loop-preserved : goal.loop-preserved
loop-preserved g c = record {
  kept =
      λ p t r. c.if-not-step.ensures.kept p
      (come p _ _ c.loop.gateway _ _ _ c.next-next.ensures.logged
      c.in-Ok.ensures.came (c.loop.invariant.kept p t r) (c.loop.invariant.rests p t r));
  rests =
      λ p t r. c.if-not-step.ensures.rests p
      (come p _ _ c.loop.gateway _ _ _ c.next-next.ensures.logged
      c.in-Ok.ensures.came (c.loop.invariant.kept p t r) (c.loop.invariant.rests p t r));
  events = more_events c.loop.counter _ _ _ _ _ _ _ c.loop.invariant.events
      c.next-next.ensures.logged
      c.in-Ok.ensures.came c.if-not-step.ensures.puts.events;
  script = c.if-not-step.ensures.puts.script ∙ c.next-next.ensures.script ∙ c.loop.invariant.script;
  ready = omega (
    arith,
    c.if-not-step.ensures.puts.cause,
    c.next-next.ensures.cause,
    c.in-Ok.ensures.healthy,
    c.loop.invariant.ready,
  );
}

pub returns-in-Err-clause-accounts : goal.returns-in-Err-clause-accounts
returns-in-Err-clause-accounts g c = λ p t r. ends_accounted c.in-Err.end p _ _ _ _
    (c.loop.invariant.kept p t r) c.next-next.ensures.logged c.in-Err.ensures.none

pub returns-clause-accounts : goal.returns-clause-accounts
returns-clause-accounts g c = λ p t r. accounted p _ _ (c.loop.invariant.kept p t r)

pub returns-then-not-step-clause-faithful : goal.returns-then-not-step-clause-faithful
returns-then-not-step-clause-faithful g c = λ p t r. c.if-not-step.ensures.faithful p
    (come p _ _ c.loop.gateway _ _ _ c.next-next.ensures.logged c.in-Ok.ensures.came
    (c.loop.invariant.kept p t r)
    (c.loop.invariant.rests p t r))

pub returns-then-not-step-clause-device : goal.returns-then-not-step-clause-device
returns-then-not-step-clause-device g c =
    omega (
      arith,
      c.if-not-step.ensures.puts.cause,
      c.next-next.ensures.cause,
      c.in-Ok.ensures.healthy,
      c.loop.invariant.ready,
    )

pub returns-then-not-step-clause-script : goal.returns-then-not-step-clause-script
returns-then-not-step-clause-script g c =
    c.if-not-step.ensures.puts.script ∙ c.next-next.ensures.script ∙ c.loop.invariant.script

pub returns-in-Err-clause-rests : goal.returns-in-Err-clause-rests
returns-in-Err-clause-rests g c = λ p t r. unless_device c.in-Err.end _
    (subst (Rests p) (sym (logged_same _ _ _ c.next-next.ensures.logged c.in-Err.ensures.none))
    (c.loop.invariant.rests p t r))

pub returns-in-Err-clause-kept : goal.returns-in-Err-clause-kept
returns-in-Err-clause-kept g c = λ p t r. unless_device c.in-Err.end _
    (subst (Follows p c.loop.gateway)
    (sym (logged_same _ _ _ c.next-next.ensures.logged c.in-Err.ensures.none))
    (c.loop.invariant.kept p t r))

pub returns-in-Err-clause-script : goal.returns-in-Err-clause-script
returns-in-Err-clause-script g c = c.next-next.ensures.script ∙ c.loop.invariant.script

pub returns-in-Err-clause-device : goal.returns-in-Err-clause-device
returns-in-Err-clause-device g c =
    omega (arith, c.next-next.ensures.cause, c.in-Err.ensures.end.0, c.loop.invariant.ready)

pub returns-then-not-step-clause-order : goal.returns-then-not-step-clause-order
returns-then-not-step-clause-order g c = λ s t r.
    let p = setup_of s in
    of_logged (IsFaithful p) KeepsOrder _ (c.if-not-step.ensures.faithful p
    (come p _ _ c.loop.gateway _ _ _ c.next-next.ensures.logged c.in-Ok.ensures.came
    (c.loop.invariant.kept p t r)
    (c.loop.invariant.rests p t r))) (c.steps_keep_their_order.ensures.settings s)

pub returns-in-Err-clause-order : goal.returns-in-Err-clause-order
returns-in-Err-clause-order g c = λ s t r.
    let p = setup_of s in
    subst (λ logged. IfSome logged KeepsOrder)
    (sym (logged_same _ _ _ c.next-next.ensures.logged c.in-Err.ensures.none))
    (ordered p _ _ (c.steps_keep_their_order.ensures.settings s) (c.loop.invariant.kept p t r))

pub returns-clause-order : goal.returns-clause-order
returns-clause-order g c = λ s t r.
    let p = setup_of s in
    ordered p _ _ (c.steps_keep_their_order.ensures.settings s) (c.loop.invariant.kept p t r)

pub returns-in-Err-clause-most : goal.returns-in-Err-clause-most
returns-in-Err-clause-most g c = (
  c.loop.counter,
  c.loop.auto.counter-end,
  subst (MoreEvents c.loop.counter (g.P.Port.log c.args.port.now))
      (sym (logged_same _ _ _ c.next-next.ensures.logged c.in-Err.ensures.none))
      c.loop.invariant.events,
)

pub returns-clause-most : goal.returns-clause-most
returns-clause-most g c = (c.loop.counter, c.loop.auto.counter-end, c.loop.invariant.events)

pub returns-then-not-step-clause-most : goal.returns-then-not-step-clause-most
returns-then-not-step-clause-most g c = (
  c.loop.counter + 1,
  omega (arith, c.loop-test.true),
  more_events c.loop.counter _ _ _ _ _ _ _ c.loop.invariant.events c.next-next.ensures.logged
      c.in-Ok.ensures.came c.if-not-step.ensures.puts.events,
)
