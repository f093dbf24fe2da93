use Rattle.std.proofs.Common.{◌≡◌, inl, inr, ℕ, List, ◌∷◌, true, subst}
use Rattle.std.specs.Prelude.{◌⊎◌}
use Rattle.gateway.specs.Restored.{state_lines}
use Rattle.segments.specs.Crash.{AreMixing}
use Rattle.state.specs.Crashed.{IsKeptIn}
use Rattle.state.specs.Deeds.{Begun, is_kept}
use Rattle.state.specs.Keeping.{Keeping}
use Rattle.state.specs.Logs.{HasFreshLog, IsOlderBeside, leaves_amid, leaves_both, leaves_in}
use Rattle.state.proofs.Returning.{goes_on_over, in_either_place}
use Rattle.state.proofs.Surviving.{amid_left, both_left, fresh_kept}
use Rattle.state.proofs.keeper.Keeper+Pair+P+DiskStore+F.survives.Goals as goal

pub returns-clause-kept : goal.returns-clause-kept
returns-clause-kept g c =
    subst (λ (k : Keeping _). is_kept k.ends.deeds ≡ true → AreMixing g.F.File.Disk →
    (file : List ℕ) → leaves_in k.ends.store.opened file →
    IsKeptIn k.ends.store.settings.items k.ends.deeds file) c.self.view_is c.survives.ensures.kept

pub returns-clause-older : goal.returns-clause-older
returns-clause-older g c =
    subst (λ (k : Keeping _). is_kept k.ends.deeds ≡ true → (file other : List ℕ) →
    leaves_both k.ends.store.opened file other → IsOlderBeside file other) c.self.view_is
    c.survives.ensures.older

pub returns-clause-goes_on : goal.returns-clause-goes_on
returns-clause-goes_on g c kept mixing file other left =
    let ends = c.args.self.now.ends in
    goes_on_over g.F.File.Disk ends.store.settings.items ends.deeds file other
    (returns-clause-kept g c kept mixing file (both_left ends.store.opened file other left))
    (returns-clause-older g c kept file other left)

pub returns-clause-amid : goal.returns-clause-amid
returns-clause-amid g c kept mixing state number file other left =
    let ends = c.args.self.now.ends in
    let settings = ends.store.settings.items in
    elim (subst (λ (k : Keeping _). is_kept k.ends.deeds ≡ true → (number : ℕ)
    (settings : List ℕ) (lines : List (List ℕ)) (file other : List ℕ) →
    leaves_amid k.ends.store.opened number settings lines file other → IsOlderBeside file other
    ⊎ (HasFreshLog number settings lines other × IsOlderBeside other file)) c.self.view_is
    c.survives.ensures.amid kept number settings (state_lines state) file other left) [
      | inl beside ↦ inl (goes_on_over g.F.File.Disk settings ends.deeds file other
          (returns-clause-kept g c kept mixing file
          (amid_left ends.store.opened number settings (state_lines state) file other left)) beside)
      | inr both ↦ inr (in_either_place g.F.File.Disk settings (Begun state ∷ ends.deeds) file other
          (goes_on_over g.F.File.Disk settings (Begun state ∷ ends.deeds) other file
          (fresh_kept number settings state ends.deeds other both.0) both.1))
    ]
