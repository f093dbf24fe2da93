-- So much of the text was read and judged, and the last block is still to come.
use Rattle.std.proofs.Common.{◌≡◌, false}
use Rattle.telegate.proofs.PartLemmas.{IsJudgedTo}
use Rattle.telegate.proofs.replay.judge_text.Given as goal

abbrev pub invariant-judging : goal.invariant-judging
invariant-judging g l = record {
  judged : IsJudgedTo l.fn.as_record (g.R.Read.remaining l.fn.text) l.blocks.coming l.next;
  goes_on : l.blocks.is_over ≡ false;
}
