use Rattle.state.proofs.Begins.{gives_up}
use Rattle.state.proofs.start_laws.no_command_outlives_a_start.Goals as goal

pub returns : goal.returns
returns g c = gives_up {g = g.D.Disk} (record {
  done = c.giving_up_is_for_one_station.ensures.done;
  itself = c.giving_up_is_for_one_station.ensures.itself;
  others = c.giving_up_is_for_one_station.ensures.others;
  awaited = c.giving_up_is_for_one_station.ensures.awaited;
  number = c.giving_up_is_for_one_station.ensures.number;
  doubts = c.restarts_change_no_link.ensures.station;
  still = c.restarts_change_no_link.ensures.awaited;
  as_many = c.restarts_change_no_link.ensures.number;
})
