-- So much of the record was read and written, and the last block is still to come.
use Rattle.std.proofs.Common.{◌≡◌, [], false}
use Rattle.record.proofs.WholeLemmas.{CapturesTo}
use Rattle.record.proofs.capture.whole.capture_text.Given as goal

abbrev pub invariant-capturing : goal.invariant-capturing
invariant-capturing g l = record {
  captures : CapturesTo l.fn.link (g.R.Read.remaining l.fn.text) l.blocks.coming l.capture l.next
      (g.W.Write.contents l.fn.out) (g.W.Write.contents l.out);
  goes_on : l.blocks.is_over ≡ false;
  clear : l.page ≡ [];
}
