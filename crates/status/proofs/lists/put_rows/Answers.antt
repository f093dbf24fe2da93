use Rattle.std.proofs.Common.{arith, refl}
use Rattle.status.specs.Words.{rows}
use Rattle.status.proofs.WordLemmas.{put_item, put_all}
use Rattle.status.proofs.lists.put_rows.Goals as goal

pub loop-thing-preserved : goal.loop-thing-preserved
loop-thing-preserved g c =
    let f = g.F.Form.text c.args.form.now in
    put_item f (rows f) c.args.things.now c.loop-thing.thing-index c.thing-item.result
    c.loop-thing.page c.put.new.page _
    (λ y ys. refl) c.loop-thing-test.true c.thing-item.is c.put.ensures c.loop-thing.invariant

pub returns : goal.returns
returns g c =
    put_all (rows (g.F.Form.text c.args.form.now)) c.args.things.now c.loop-thing.thing-index
    c.loop-thing.page _ (omega arith) refl c.loop-thing.invariant
