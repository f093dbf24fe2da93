use Rattle.std.proofs.Common.{rules, ◌≡◌, ℕ, List, subst, sym}
use Rattle.std.specs.Prelude.{◌⊎◌}
use Rattle.state.specs.Logs.{HasFreshLog, IsOlderBeside, leaves_amid, leaves_both}
use Rattle.state.specs.declared.opened.Opened.TheVariants as opens
use Rattle.state.proofs.Surviving.{current_amid, current_beside}
use Rattle.state.proofs.disk_store.DiskStore.has_older_beside.Goals as goal

pub returns-in-Current-clause-older : goal.returns-in-Current-clause-older
returns-in-Current-clause-older g c _ =
    let is : c.args.self.now.opened ≡ opens.Current c.in-Current.current = search rules in
    subst (λ opened. (file other : List ℕ) → leaves_both opened file other →
    IsOlderBeside file other) (sym is)
    (current_beside c.in-Current.current c.survives.ensures.stands)

pub returns-in-Current-clause-amid : goal.returns-in-Current-clause-amid
returns-in-Current-clause-amid g c _ =
    let is : c.args.self.now.opened ≡ opens.Current c.in-Current.current = search rules in
    subst (λ opened. (number : ℕ) (settings : List ℕ) (lines : List (List ℕ))
    (file other : List ℕ) → leaves_amid opened number settings lines file other →
    IsOlderBeside file other
    ⊎ (HasFreshLog number settings lines other × IsOlderBeside other file)) (sym is)
    (current_amid c.in-Current.current c.survives.ensures.stands)
