use Rattle.std.proofs.Common.{◌∙◌, List, ap₂}
use Rattle.gateway.specs.declared.settings.StationSettings.{StationSettings}
use Rattle.state.specs.Beginnings.{gap_now}
use Rattle.state.proofs.beginning.move_on.Goals as goal

pub returns-in-Ok-clause-gap : goal.returns-in-Ok-clause-gap
returns-in-Ok-clause-gap c =
    c.gap_now-gap.ensures
    ∙ ap₂ (λ (before now : List StationSettings). gap_now before now c.args.resumed.gap)
    c.stations.ensures.stations c.stations-2.ensures.stations
