use Rattle.gateway.proofs.Quiet.{given_up, nothing_goes}
use Rattle.gateway.proofs.laws.restarts.restarts_give_up_commands.Goals as goal

pub returns : goal.returns
returns c = record {
  course = given_up (record {
    done = c.giving_up_is_for_one_station.ensures.done;
    itself = c.giving_up_is_for_one_station.ensures.itself;
    others = c.giving_up_is_for_one_station.ensures.others;
    awaited = c.giving_up_is_for_one_station.ensures.awaited;
    number = c.giving_up_is_for_one_station.ensures.number;
    doubts = c.restarts_change_no_link.ensures.station;
    still = c.restarts_change_no_link.ensures.awaited;
    as_many = c.restarts_change_no_link.ensures.number;
  });
  quiet = nothing_goes;
}
