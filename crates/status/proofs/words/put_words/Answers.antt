use Rattle.std.proofs.Common.{arith, refl}
use Rattle.status.specs.Words.{text_of, word_text}
use Rattle.status.proofs.WordLemmas.{put_more, put_all}
use Rattle.status.proofs.words.put_words.Goals as goal

pub loop-word-preserved : goal.loop-word-preserved
loop-word-preserved c =
    put_more word_text text_of c.args.words.now c.loop-word.word-index _ c.loop-word.page
    c.put_word.new.page _
    (λ y ys. refl) c.loop-word-test.true c.put_word.ensures c.loop-word.invariant

pub returns : goal.returns
returns c =
    put_all text_of c.args.words.now c.loop-word.word-index c.loop-word.page _ (omega arith) refl
    c.loop-word.invariant
