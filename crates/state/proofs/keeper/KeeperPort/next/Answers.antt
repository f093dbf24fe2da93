use Rattle.std.proofs.Common.{◌+◌, ◌<◌, sym, subst}
use Rattle.state.specs.Keeping.{Keeping}
use Rattle.state.proofs.Kept.{came_passed, received_right, few_faults, few_more, settled_all}
use Rattle.state.proofs.keeper.KeeperPort.next.Goals as goal

pub invariant_of-self-2 : goal.invariant_of-self-2
invariant_of-self-2 g c = record {
  passed = came_passed _ _ _ _ _ _ (g.E.Ends.deeds c.keep-self-inside.new.ends)
      c.self.invariant.passed c.next-next.ensures.logged
      c.keep-self-inside.ensures.port.logged c.next-next.ensures.arrived
      c.keep-self-inside.ensures.passed;
  orderly = c.keep-self-inside.ensures.orderly _ (received_right _ _ _ _ c.next-next.ensures.arrived
      c.self.invariant.orderly.time c.self.invariant.orderly.right);
  few = few_more _ _ _ _ _ c.keep-self-inside.ensures.port.cause c.next-next.ensures.cause
      (few_faults c.next-next.result)
      (subst (λ (k : Keeping _). g.E.Ends.failed k.ends + k.stops < 18446744073709551615)
      (sym c.self.view_is) c.requires);
}

pub returns-clause-settled : goal.returns-clause-settled
returns-clause-settled g c none =
    let right = received_right _ _ _ _ c.next-next.ensures.arrived c.self.invariant.orderly.time
    c.self.invariant.orderly.right in
    settled_all c.keep-self-inside.result (g.E.Ends.deeds c.keep-self-inside.new.ends)
    (c.keep-self-inside.ensures.settled none)
    (c.keep-self-inside.ensures.orderly c.self.inside.bears_loss right).stands
