use Rattle.std.proofs.Common.{◌+◌, ap, sym, refl, take}
use Rattle.gateway.specs.Frames.{acknowledged_count, acknowledged_reports}
use Rattle.gateway.proofs.Objects.{length-pieces_of}
use Rattle.gateway.proofs.OneCause.{came_acknowledged}
use Rattle.delivery.proofs.Places.{all_places}
use Rattle.delivery.proofs.received.pieces_are_acknowledged_with_their_frames.Goals as goal

pub returns : goal.returns
returns c = record {
  none = (refl, refl);
  numbers = came_acknowledged;
  pieces = λ c before. ap (λ n. n + acknowledged_reports before)
      (sym (length-pieces_of (take (acknowledged_count c.received_frames) c.sent_frames)));
  objects = λ c before. refl;
  taken = λ p log. refl;
  places = all_places;
}
