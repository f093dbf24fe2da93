use Rattle.std.proofs.Common.{ap}
use Rattle.traces.specs.Printout.{Printed}
use Rattle.sim.proofs.Keeping.{hand_kept}
use Rattle.sim.proofs.sim.Sim.hand.Goals as goal

pub invariant_of-self-2 : goal.invariant_of-self-2
invariant_of-self-2 c = (
  c.self.invariant.0,
  hand_kept _ c.self.inside.page.log _ _ _ c.args.now c.args.octets.now _ _
      (ap (λ (p : Printed). p.log) c.in_ok-went.ensures.ok) c.in-Some.ensures c.hand.ensures
      c.self.invariant.1,
)
