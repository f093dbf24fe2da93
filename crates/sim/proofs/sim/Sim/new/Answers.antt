use Rattle.std.proofs.Common.{◌≡◌, ℕ, None, length, replicate, ap, ◌∙◌, arith, Vec, Global, vec_len}
use Rattle.link.specs.declared.station.Station.{Station}
use Rattle.traces.specs.Printout.{Printed}
use Rattle.sim.specs.Tallies.{Tallied, fresh_tally}
use Rattle.sim.proofs.BeginningLemmas.{begun_sizes}
use Rattle.sim.proofs.Keeping.{stands_new}
use Rattle.sim.proofs.sim.Sim.new.Goals as goal

vec_length : (v : Vec Station Global) → vec_len v ≡ length v.items
vec_length v = omega (arith, v.ok.0, v.ok.1)

pub invariant_of-result : goal.invariant_of-result
invariant_of-result c = (
  c.turns.ensures,
  stands_new _ _ _ _ _ _ (ap (λ (p : Printed). p.log) c.new-3.ensures) c.shut.ensures
      c.new-2.ensures
      c.in_ok-stations.ensures (begun_sizes _ 0 _ _) (c.in_ok-tallies.ensures ∙ ap
      (λ (n : ℕ). let made : Tallied = record { awaited = None; each = replicate n fresh_tally } in
      made) (c.len.ensures
      ∙ vec_length c.in_ok-stations.stations)),
)
