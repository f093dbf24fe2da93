use Rattle.std.proofs.Common.{ap}
use Rattle.traces.specs.Printout.{Printed}
use Rattle.sim.proofs.Keeping.{log_kept}
use Rattle.sim.proofs.sim.Sim.put_gap.Goals as goal

pub invariant_of-self-2 : goal.invariant_of-self-2
invariant_of-self-2 c = (
  c.self.invariant.0,
  log_kept _ c.self.inside.page.log _ _ _ c.args.now c.args.station c.args.session
      (ap (λ (p : Printed). p.log) c.in_ok-went.ensures.ok) c.self.invariant.1,
)
