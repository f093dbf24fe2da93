use Rattle.std.proofs.Common.{◌+◌, ◌<◌, sym, subst}
use Rattle.state.specs.Keeping.{Keeping}
use Rattle.state.proofs.Kept.{kept_passed, put_orderly, put_passed, few_put, few_stops}
use Rattle.state.proofs.keeper.KeeperPort.put.Goals as goal

pub invariant_of-self : goal.invariant_of-self
invariant_of-self g c = record {
  passed = kept_passed _ _ (g.E.Ends.deeds c.self.inside.ends)
      (g.E.Ends.deeds c.settle-self-inside.new.ends) c.self.invariant.passed
      c.settle-self-inside.ensures.port.logged
      c.settle-self-inside.ensures.passed;
  orderly = c.settle-self-inside.ensures.orderly _ c.self.invariant.orderly.right;
  few = few_stops _ _ _ c.settle-self-inside.ensures.port.cause
      (subst (λ (k : Keeping _). g.E.Ends.failed k.ends + k.stops < 18446744073709551615)
      (sym c.self.view_is) c.requires);
}

pub invariant_of-self-2 : goal.invariant_of-self-2
invariant_of-self-2 g c = record {
  passed = put_passed _ _ _ _ _ _
      (kept_passed _ _ (g.E.Ends.deeds c.self.inside.ends)
      (g.E.Ends.deeds c.settle-self-inside.new.ends) c.self.invariant.passed
      c.settle-self-inside.ensures.port.logged
      c.settle-self-inside.ensures.passed) c.put.ensures.logged c.put.ensures.put;
  orderly = put_orderly _ _ _ _ _ _ c.put.ensures.put c.settle-self-inside.ensures.settled
      c.if-is_stopped.ensures
      (c.settle-self-inside.ensures.orderly _ c.self.invariant.orderly.right);
  few = few_put _ _ _ _ _ c.settle-self-inside.ensures.port.cause c.put.ensures.cause
      (subst (λ (k : Keeping _). g.E.Ends.failed k.ends + k.stops < 18446744073709551615)
      (sym c.self.view_is) c.requires);
}
