-- So much of the text was read and run, and the last block is still to come.
use Rattle.std.proofs.Common.{◌≡◌, false}
use Rattle.telegate.specs.Manners.{AreLines}
use Rattle.telegate.proofs.PartLemmas.{RunsTo}
use Rattle.telegate.proofs.replay.run_parts.Given as goal

abbrev pub invariant-running : goal.invariant-running
invariant-running g l = record {
  run : RunsTo AreLines false (g.R.Read.remaining l.fn.text) l.blocks.coming l.fn.gateway l.gateway
      l.pause l.is_whole
      (g.W.Write.contents l.fn.out) (g.W.Write.contents l.out);
  goes_on : l.blocks.is_over ≡ false;
  unwatched : l.fn.course.is_watched ≡ false → l.err ≡ l.fn.err;
}
