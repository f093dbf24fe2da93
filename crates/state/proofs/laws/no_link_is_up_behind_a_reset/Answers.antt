use Rattle.std.proofs.Common.{false}
use Rattle.state.proofs.Takings.{reset_down}
use Rattle.state.proofs.laws.no_link_is_up_behind_a_reset.Goals as goal

pub returns : goal.returns
returns g c = reset_down {g = g.D.Disk}
    (c.no_link_goes_on_but_of_a_station_as_it_was.ensures false)
