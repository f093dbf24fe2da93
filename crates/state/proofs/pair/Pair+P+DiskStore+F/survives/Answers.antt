use Rattle.std.proofs.Common.{◌≡◌, ℕ, List, [], subst}
use Rattle.std.specs.Prelude.{◌⊎◌}
use Rattle.statetext.specs.Sealed.{AreLines}
use Rattle.state.specs.Logs.{HasFreshLog, IsOlderBeside, SurvivesAsLogged, leaves_amid}
use Rattle.state.specs.Logs.{leaves_both, stored_in}
use Rattle.state.proofs.Surviving.{kept_head, kept_in}
use Rattle.state.proofs.pair.Pair+P+DiskStore+F.survives.Goals as goal

pub returns-clause-kept : goal.returns-clause-kept
returns-clause-kept g c =
    kept_in c.args.self.now.store.opened c.args.self.now.store.settings.items
    c.args.self.now.deeds c.store-store.ensures.stored c.store-store.ensures.writable
    (subst (λ s. ((stored_in s.opened).head ≡ [] → ⊥) → AreLines (stored_in s.opened).safe →
    SurvivesAsLogged s.opened) c.store-store.ensures.store c.survives.ensures)

pub returns-clause-older : goal.returns-clause-older
returns-clause-older g c kept =
    subst (λ s. ((stored_in s.opened).head ≡ [] → ⊥) → (file other : List ℕ) →
    leaves_both s.opened file other → IsOlderBeside file other) c.store-store.ensures.store
    c.has_older_beside.ensures.older
    (kept_head c.args.self.now.store.opened c.args.self.now.store.settings.items
    c.args.self.now.deeds c.store-store.ensures.stored kept)

pub returns-clause-amid : goal.returns-clause-amid
returns-clause-amid g c kept =
    subst (λ s. ((stored_in s.opened).head ≡ [] → ⊥) → (number : ℕ) (settings : List ℕ)
    (lines : List (List ℕ)) (file other : List ℕ) →
    leaves_amid s.opened number settings lines file other → IsOlderBeside file other
    ⊎ (HasFreshLog number settings lines other × IsOlderBeside other file))
    c.store-store.ensures.store c.has_older_beside.ensures.amid
    (kept_head c.args.self.now.store.opened c.args.self.now.store.settings.items
    c.args.self.now.deeds c.store-store.ensures.stored kept)
