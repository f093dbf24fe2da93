use Rattle.std.proofs.Common.{◌∷◌, List, ℕ, Option, Bool, subst, sym}
use Rattle.std.specs.List.{AllByRecursion}
use Rattle.state.specs.Deeds.{Deeds, Synced, written}
use Rattle.state.specs.Lines.{IsWritable}
use Rattle.state.specs.Stores.{IsMarked, IsStored}
use Rattle.state.proofs.CrashLines.{synced_stored}
use Rattle.state.proofs.pair.PairEnds.sync.Goals as goal

pub invariant_of-self : goal.invariant_of-self
invariant_of-self g c =
    let was = c.self.inside in
    let e = c.sync-is_synced.ensures in
    let is = c.with-self-inside.ensures in (
      subst (λ (d : Deeds). IsStored (g.S.Store.settings c.sync-is_synced.new.self) d
          (g.S.Store.stored c.sync-is_synced.new.self)) (sym is)
          (subst (λ (s : List ℕ). IsStored s (Synced ∷ was.trail.deeds)
          (g.S.Store.stored c.sync-is_synced.new.self)) (sym e.settings)
          (synced_stored (g.S.Store.settings was.store) was.trail.deeds
          (g.S.Store.stored was.store) (g.S.Store.stored c.sync-is_synced.new.self)
          c.self.invariant.0
          (e.synced c.if-is_synced.true))),
      subst (λ (d : Deeds). IsMarked d (g.S.Store.mark c.sync-is_synced.new.self)) (sym is)
          (subst (λ (m : Option Bool). IsMarked (Synced ∷ was.trail.deeds) m) (sym e.mark)
          (record {
            kept = c.self.invariant.1.kept;
            lost = c.self.invariant.1.lost;
          })),
      subst (λ (d : Deeds). AllByRecursion IsWritable (written d)) (sym is) c.self.invariant.2,
    )
