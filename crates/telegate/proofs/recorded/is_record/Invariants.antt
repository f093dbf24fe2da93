-- So much of the text was read, no line of which is that of an action, and the last block is still
-- to come.
use Rattle.std.proofs.Common.{◌≡◌, false}
use Rattle.telegate.proofs.RecordLemmas.{SeeksTo}
use Rattle.telegate.proofs.recorded.is_record.Given as goal

abbrev pub invariant-seeking : goal.invariant-seeking
invariant-seeking g l = record {
  seeks : SeeksTo (g.R.Read.remaining l.fn.text) l.blocks.coming;
  goes_on : l.blocks.is_over ≡ false;
}
