use Rattle.delivery.proofs.GoingOut.{whole, counts, said}
use Rattle.delivery.proofs.received.frames_go_out_whole_and_with_their_counts.Goals as goal

pub returns : goal.returns
returns c = record {
  whole = λ p newer log now octets f. whole p newer log now octets f.acts;
  counts = counts c.spellings_cancel.ensures;
  said = said c.spellings_cancel.ensures;
}
