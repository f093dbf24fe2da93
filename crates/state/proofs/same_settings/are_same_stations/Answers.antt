use Rattle.std.proofs.Common.{◌≡◌, ◌∙◌, true, false, sym, subst, List}
use lib.Pointwise.{pointwise}
use Rattle.gateway.specs.declared.settings.StationSettings.{StationSettings}
use Rattle.gateway.specs.contracts.settings.StationSettingsPartialEq.TheImpl.{eq-value}
use Rattle.state.proofs.SameStations.{same_all, all_self}
use Rattle.state.proofs.same_settings.are_same_stations.Goals as goal

pub returns-clause-same : goal.returns-clause-same
returns-clause-same c = λ e. same_all _ _ (sym c.eq.ensures ∙ e)

pub returns-clause-others : goal.returns-clause-others
returns-clause-others c = λ e same.
    let yes : c.eq.result ≡ true = c.eq.ensures
    ∙ subst (λ (ys : List StationSettings). pointwise eq-value.it c.args.first.now ys ≡ true) same
    (all_self c.args.first.now) in
    let no : true ≡ false = sym yes ∙ e in absurd (cc)
