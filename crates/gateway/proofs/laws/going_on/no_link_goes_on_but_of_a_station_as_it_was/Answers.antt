use Rattle.gateway.proofs.Unchanged.{up_means}
use Rattle.gateway.proofs.laws.going_on.no_link_goes_on_but_of_a_station_as_it_was.Goals as goal

pub returns : goal.returns
returns c = λ goes_on before now s i station count there up.
    let law = c.stations_go_on_by_their_addresses.ensures in
    up_means goes_on before now s i station
    (record { known = law.known goes_on before now s; other = law.other goes_on before now s })
    count there up
