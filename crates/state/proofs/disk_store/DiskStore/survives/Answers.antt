use Rattle.std.proofs.Common.{rules, ◌≡◌, subst, sym}
use Rattle.statetext.specs.Sealed.{AreLines}
use Rattle.state.specs.Logs.{SurvivesAsLogged, stored_in}
use Rattle.state.specs.declared.opened.Opened.TheVariants as opens
use Rattle.state.proofs.Surviving.{current_survives}
use Rattle.state.proofs.disk_store.DiskStore.survives.Goals as goal

pub returns-in-Current : goal.returns-in-Current
returns-in-Current g c _ none =
    let is : c.args.self.now.opened ≡ opens.Current c.in-Current.current = search rules in
    subst (λ opened. SurvivesAsLogged opened) (sym is)
    (current_survives c.in-Current.current c.survives.ensures.survives c.survives.ensures.mixed
    (subst (λ opened. AreLines (stored_in opened).safe) is none))
