use Rattle.std.proofs.Common.{refl}
use Rattle.delivery.proofs.Closing.{closed_so, placed_so, both_so}
use Rattle.delivery.proofs.received.connections_are_closed_for_the_cause_that_is_told.Goals as goal

pub returns : goal.returns
returns c = record {
  cause = λ p newer log now cause f other. closed_so p newer log now cause f.acts other;
  placed = λ p newer log now cause f other own. placed_so p newer log now cause f.acts other own;
  both = λ p newer log now cause f other own. both_so p newer log now cause f.acts other own;
  told = (refl, refl, refl, refl, refl, refl, refl);
}
