use Rattle.std.proofs.Common.{refl, rules}
use Rattle.live.specs.Reaching.{NoAddress}
use Rattle.live.proofs.Connects.{all_tried, none_left, one_answers, waits_on}
use Rattle.live.proofs.sockets.LineDialler.reach_one.Goals as goal

pub loop-init : goal.loop-init
loop-init g c = (refl, NoAddress _ (search rules))

pub returns-in_default-clause-reaches : goal.returns-in_default-clause-reaches
returns-in_default-clause-reaches g c =
    none_left _ _ _ _ _ _ c.loop.invariant.1 c.next_address.ensures (search rules)

pub returns-in-Ok-clause-reaches : goal.returns-in-Ok-clause-reaches
returns-in-Ok-clause-reaches g c =
    one_answers _ _ _ _ _ _ c.in-Some.address _ _ c.in-Ok.stream _ c.loop.invariant.1
    c.in-Some.ensures c.in-Ok.is c.connect.ensures c.open.ensures

pub loop-preserved : goal.loop-preserved
loop-preserved g c = (
  c.loop.invariant.0,
  waits_on _ _ _ _ _ c.in-Some.address _ c.in-Err.fault _ c.loop.invariant.1 c.in-Some.ensures
      c.in-Err.is c.connect.ensures,
)

pub returns-clause-reaches : goal.returns-clause-reaches
returns-clause-reaches g c = all_tried _ _ _ _ (search rules) c.loop.invariant.1
