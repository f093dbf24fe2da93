use Rattle.std.proofs.Common.{refl, rules, ◌∙◌}
use Rattle.live.specs.Reaching.{NoneYet}
use Rattle.live.proofs.Reaches.{enough_on, next_try, none_on, tried_on}
use Rattle.live.proofs.sockets.LineDialler.connect_next.Goals as goal

pub loop-init : goal.loop-init
loop-init g c = (refl, refl, NoneYet)

pub returns-in_default-clause-tries : goal.returns-in_default-clause-tries
returns-in_default-clause-tries g c =
    none_on _ _ _ _ _ _ _ _ _ c.loop.invariant.2 c.next_address.ensures (search rules)
    c.loop.invariant.1

pub returns-in-Ok-clause-tries : goal.returns-in-Ok-clause-tries
returns-in-Ok-clause-tries g c =
    tried_on _ _ _ _ _ _ _ _ _ _ c.in-Ok.connecting c.loop.invariant.2 (search rules)
    c.in-Some.ensures (search rules) c.connect_at.ensures.connects

pub loop-preserved : goal.loop-preserved
loop-preserved g c = (
  c.connect_at.ensures.place ∙ c.loop.invariant.0,
  c.connect_at.ensures.connecting ∙ c.loop.invariant.1,
  next_try _ _ _ _ _ _ _ _ _ _ c.in-Err.fault c.loop.invariant.2 c.in-Some.ensures (search rules)
      c.connect_at.ensures.connects c.kind-cause.ensures,
)

pub returns-clause-tries : goal.returns-clause-tries
returns-clause-tries g c =
    enough_on _ _ _ _ _ _ _ c.loop.invariant.2 (search rules) c.loop.invariant.1
