use Rattle.std.proofs.Common.{◌≡◌, drop}
use Rattle.status.specs.TextPage.{put}
use Rattle.status.specs.Words.{text_of}
use Rattle.status.proofs.words.put_words.Given as goal

abbrev pub invariant-loop-word : goal.invariant-loop-word
invariant-loop-word l = put (text_of (drop l.word-index l.words)) l.page
    ≡ put (text_of l.words) l.fn.page
