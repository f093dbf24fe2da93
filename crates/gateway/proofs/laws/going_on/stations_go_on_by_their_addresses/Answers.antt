use Rattle.gateway.proofs.Carrying.{IsForOne}
use Rattle.gateway.proofs.Going as going
use Rattle.gateway.proofs.laws.going_on.stations_go_on_by_their_addresses.Goals as goal

pub returns : goal.returns
returns c =
    let one = c.giving_up_is_for_one_station.ensures in
    let law : IsForOne = record {
      done = one.done;
      itself = one.itself;
      others = one.others;
      awaited = one.awaited;
      number = one.number;
      doubts = c.restarts_change_no_link.ensures.station;
      still = c.restarts_change_no_link.ensures.awaited;
      as_many = c.restarts_change_no_link.ensures.number;
    } in
    let bits = c.frame_count_bits_go_on.ensures in
    let seats = c.seats_have_their_addresses.ensures in
    record {
      known = λ goes_on before now. going.known law goes_on before now bits.seats seats.number
          bits.number;
      other = λ goes_on before now. going.other law goes_on before now bits.seats seats.number;
    }
