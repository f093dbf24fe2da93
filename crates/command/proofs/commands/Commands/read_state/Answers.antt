use Rattle.std.proofs.Common.{ap, length, List}
use Rattle.command.specs.declared.station.StationInfo.{StationInfo}
use Rattle.command.proofs.SavedBack.{made_again}
use Rattle.command.proofs.ReadExactly.{exact_again}
use Rattle.command.proofs.commands.Commands.read_state.Goals as goal

pub returns-clause-back : goal.returns-clause-back
returns-clause-back g c = λ s rest savable has e.
    let h =
    c.in_ok-parts.ensures.law s rest savable
    (ap (λ (xs : List StationInfo). length xs) has.same_stations) e in
    made_again c.of_parts.result c.args.stations.now c.args.sizes c.args.select_ms c.args.max_age_ms
    s
    c.in_ok-parts.parts _ rest c.of_parts.ensures savable has h.0 h.1

pub returns-clause-exact : goal.returns-clause-exact
returns-clause-exact g c =
    exact_again c.of_parts.result c.args.stations.now c.args.sizes c.args.select_ms
    c.args.max_age_ms c.in_ok-parts.parts _ _ c.of_parts.ensures
    (c.in_ok-parts.ensures.exact c.args.stations.now c.args.sizes c.args.select_ms
    c.args.max_age_ms)
