use Rattle.std.proofs.Common.{ℕ, ◌∙◌, length, arith, ap, subst, length-drop}
use Rattle.std.proofs.Math.ListN.{drop_of_length-le}
use Rattle.gateway.specs.Agrees.{Awaits}
use Rattle.gateway.specs.declared.step.Progress.TheVariants.{On, Over, Failed}
use Rattle.gateway.proofs.Events.{logged_idle}
use Rattle.gateway.proofs.Onward.{rest_is, goes_from, goes_as, onward, put_by}
use Rattle.gateway.proofs.engine.Gateway.receive.Goals as goal

pub loop-done-preserved : goal.loop-done-preserved
loop-done-preserved g c =
    let is = c.in-On.is in
    let more = onward _ _ is c.take_front-count.ensures.progress in
    let put = put_by _ On is c.take_front-count.ensures.puts in
    record {
      kept = λ p h. goes_as p _ On _ _ _ is
          (goes_from p _ c.loop-done.self _ _ _ c.take_front-count.result.0 c.loop-done.done
          c.args.octets.now
          (c.take_front-count.ensures.kept p) (c.loop-done.invariant.kept p h));
      on = onward _ _ is c.take_front-count.ensures.open;
      within =
          omega (
            arith,
            length-drop {A = ℕ},
            ap length (rest_is c.loop-done.done c.args.octets.now),
            c.loop-done-test.true,
            more.1,
          );
      events = put.events ∙ c.loop-done.invariant.events;
      script = put.script ∙ c.loop-done.invariant.script;
      cause = omega (arith, put.cause, c.loop-done.invariant.cause);
    }

pub loop-done-smaller : goal.loop-done-smaller
loop-done-smaller g c =
    let more = onward _ _ c.in-On.is c.take_front-count.ensures.progress in
    omega (arith, c.loop-done-test.true, more.0)

pub take_front-count-requires-clause-ready : goal.take_front-count-requires-clause-ready
take_front-count-requires-clause-ready g c =
    omega (arith, c.loop-done.invariant.cause, c.requires.ready)

pub returns-in-Over-clause-kept : goal.returns-in-Over-clause-kept
returns-in-Over-clause-kept g c = λ p h.
    goes_as p _ Over _ _ _ c.in-Over.is
    (goes_from p _ c.loop-done.self _ _ _ c.take_front-count.result.0 c.loop-done.done
    c.args.octets.now
    (c.take_front-count.ensures.kept p) (c.loop-done.invariant.kept p h))

pub returns-in-Over-clause-puts : goal.returns-in-Over-clause-puts
returns-in-Over-clause-puts g c =
    let put = put_by _ Over c.in-Over.is c.take_front-count.ensures.puts in
    record {
      events = put.events ∙ c.loop-done.invariant.events;
      script = put.script ∙ c.loop-done.invariant.script;
      cause = omega (arith, put.cause, c.loop-done.invariant.cause);
    }

pub returns-in-Failed-clause-kept : goal.returns-in-Failed-clause-kept
returns-in-Failed-clause-kept g c = λ p h.
    goes_as p _ Failed _ _ _ c.in-Failed.is
    (goes_from p _ c.loop-done.self _ _ _ c.take_front-count.result.0 c.loop-done.done
    c.args.octets.now
    (c.take_front-count.ensures.kept p) (c.loop-done.invariant.kept p h))

pub returns-in-Failed-clause-puts : goal.returns-in-Failed-clause-puts
returns-in-Failed-clause-puts g c =
    let put = put_by _ Failed c.in-Failed.is c.take_front-count.ensures.puts in
    record {
      events = put.events ∙ c.loop-done.invariant.events;
      script = put.script ∙ c.loop-done.invariant.script;
      cause = omega (arith, put.cause, c.loop-done.invariant.cause);
    }

pub returns-clause-kept : goal.returns-clause-kept
returns-clause-kept g c = λ p h.
    logged_idle p _ c.loop-done.self
    (subst (λ rest. Awaits p c.loop-done.self (g.P.Port.log c.loop-done.port) rest)
    (drop_of_length-le c.args.octets.now c.loop-done-test.false) (c.loop-done.invariant.kept p h))

pub returns-clause-puts : goal.returns-clause-puts
returns-clause-puts g c = record {
  events = c.loop-done.invariant.events;
  script = c.loop-done.invariant.script;
  cause = omega (arith, c.loop-done.invariant.cause);
}
