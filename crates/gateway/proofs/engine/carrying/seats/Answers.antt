use Rattle.std.proofs.Common.{◌≡◌, ◌≤◌, ◌∙◌, List, map, length, sym, ap, subst}
use Rattle.std.specs.List.{All}
use Rattle.std.proofs.lemmas.List.{take_all}
use Rattle.link.specs.Requests.{FitsAddress}
use Rattle.link.specs.declared.seat.ResumedStation.{ResumedStation}
use Rattle.gateway.specs.declared.settings.StationSettings.{StationSettings}
use Rattle.gateway.specs.Carried.{seat_of}
use Rattle.gateway.proofs.Reseating.{seats_fit}
use Rattle.gateway.proofs.engine.carrying.seats.Goals as goal

pub returns-clause-fit : goal.returns-clause-fit
returns-clause-fit c =
    let before = c.args.before.now.stations in
    let now = c.args.now.now in
    let all : length now.stations ≤ c.loop-station.station-index =
    subst (λ (l : List StationSettings). length l ≤ c.loop-station.station-index)
    c.stations-station-items.ensures.stations
    c.loop-station-test.false in
    let found : c.loop-station.found.items ≡ map (seat_of before) now.stations =
    c.loop-station.invariant ∙ ap (λ (l : List StationSettings). map (seat_of before) l)
    (take_all c.loop-station.station-index now.stations all) in
    subst
    (λ (l : List ResumedStation). All (λ (s : ResumedStation). FitsAddress now.line.link s.address)
    l) (sym found)
    (seats_fit now.line.link now.line.sizes.ca before now.stations
    c.stations-station-items.ensures.rules.each)
