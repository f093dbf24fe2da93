use Rattle.std.proofs.Common.{refl, ap}
use Rattle.link.specs.Carried.{link_carried}
use Rattle.link.proofs.GoingOn as on
use Rattle.link.proofs.laws.carrying.frame_count_bits_go_on.Goals as goal

pub returns : goal.returns
returns c = record {
  released = on.bits_released;
  carried = on.bits_carried;
  seats = on.seats_stay;
  number = on.number;
  service = on.service_carried;
  missed = λ retries address silence s fcb service held. ap (link_carried retries) held;
  broken_off = on.broken_off;
  flags = λ retries address s. (refl, refl);
  released_flags = on.flags_released;
}
