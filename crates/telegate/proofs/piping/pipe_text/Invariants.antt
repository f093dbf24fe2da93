use Rattle.std.proofs.Common.{◌≡◌, false}
use Rattle.telegate.proofs.PipeLemmas.{PipesTo}
use Rattle.telegate.proofs.piping.pipe_text.Given as goal

-- so much of the text was read and shown, and the last block is still to come
abbrev pub invariant-piping : goal.invariant-piping
invariant-piping g l = record {
  run : PipesTo l.piped l.words (g.R.Read.remaining l.fn.text) l.blocks.coming l.condition
      (g.W.Write.contents l.fn.out) (g.W.Write.contents l.out);
  goes_on : l.blocks.is_over ≡ false;
}
