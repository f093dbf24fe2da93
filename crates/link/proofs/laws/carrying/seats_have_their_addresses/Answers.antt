use Rattle.link.proofs.GoingOn.{seats_number, seats_address, seats_new}
use Rattle.link.proofs.laws.carrying.seats_have_their_addresses.Goals as goal

pub returns : goal.returns
returns c = record {
  number = seats_number;
  address = seats_address;
  new = seats_new;
}
