use Rattle.std.proofs.Common.{arith, refl}
use Rattle.status.specs.Words.{escaped, mark_of}
use Rattle.status.proofs.WordLemmas.{put_more, put_all}
use Rattle.status.proofs.words.put_escaped.Goals as goal

pub loop-octet-preserved : goal.loop-octet-preserved
loop-octet-preserved c =
    put_more (mark_of c.args.marks) (escaped c.args.marks) c.as_bytes-octet-items.result.now
    c.loop-octet.octet-index _ c.loop-octet.page c.put_mark.new.page _
    (λ y ys. refl) c.loop-octet-test.true c.put_mark.ensures c.loop-octet.invariant

pub returns : goal.returns
returns c =
    put_all (escaped c.args.marks) c.as_bytes-octet-items.result.now c.loop-octet.octet-index
    c.loop-octet.page _ (omega arith) refl c.loop-octet.invariant
