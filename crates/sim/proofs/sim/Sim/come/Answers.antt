use Rattle.std.proofs.Common.{◌<◌, ◌++◌, Bool, None, option_map, if◌then◌else◌, sym, ap, subst, ◌∙◌}
use Rattle.gateway.specs.Entries.{event_of}
use Rattle.gateway.specs.Log.{Log}
use Rattle.sim.specs.Losses.{turns_of}
use Rattle.traces.specs.Printout.{Printed}
use Rattle.sim.specs.Played.{Simulated, coming}
use Rattle.sim.proofs.Keeping.{come_kept}
use Rattle.sim.proofs.sim.Sim.come.Goals as goal

pub invariant_of-self-2 : goal.invariant_of-self-2
invariant_of-self-2 c = (
  c.self.invariant.0,
  come_kept _ c.self.inside.page.log _ _ _ (event_of c.args.entry.now) _ _ _ _ _
      (ap (λ (p : Printed). p.log) c.came.ensures
      ∙ ap (λ (l : Log). l ++ c.self.inside.page.log) c.requires.logged)
      (c.requires.event ∙ ap (λ (v : Simulated). coming v.plan v.standing) (sym c.self.view_is))
      (subst (λ (v : Simulated). v.standing.call < turns_of v.plan.directives) (sym c.self.view_is)
      c.requires.«open»)
      (c.forget.ensures
      ∙ ap (λ (b : Bool). if b then None else option_map (λ v. v.items) c.self.inside.waiting)
      c.is_given.ensures)
      c.centre_after-self-inside.ensures c.moment_at-self-inside.ensures c.in_ok-come.ensures.ok
      c.come-2.ensures
      c.self.invariant.1,
)
