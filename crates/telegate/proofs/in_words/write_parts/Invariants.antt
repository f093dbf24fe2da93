-- So much of the text was read and printed, and the last block is still to come.
use Rattle.std.proofs.Common.{◌≡◌, false}
use Rattle.telegate.proofs.InWordsLemmas.{WritesTo}
use Rattle.telegate.proofs.in_words.write_parts.Given as goal

abbrev pub invariant-writing : goal.invariant-writing
invariant-writing g l = record {
  run : WritesTo l.fn.style l.fn.as_record (g.R.Read.remaining l.fn.text) l.blocks.coming
      l.fn.gateway l.gateway
      l.pause l.scribe
      l.is_whole (g.W.Write.contents l.fn.out) (g.W.Write.contents l.out);
  goes_on : l.blocks.is_over ≡ false;
}
