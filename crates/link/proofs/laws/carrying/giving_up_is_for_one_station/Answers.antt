use Rattle.link.proofs.GivenUp as up
use Rattle.link.proofs.laws.carrying.giving_up_is_for_one_station.Goals as goal

pub returns : goal.returns
returns c = record {
  done = up.done;
  itself = up.itself;
  others = up.others;
  awaited = up.awaited;
  held = up.held;
  out = up.out;
  number = up.number;
  polls = up.polls;
}
