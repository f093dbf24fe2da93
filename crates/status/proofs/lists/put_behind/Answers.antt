use Rattle.std.proofs.Common.{arith, refl, ◌∷◌}
use Rattle.status.specs.Words.{behind}
use Rattle.status.proofs.WordLemmas.{put_comma, put_item, put_all}
use Rattle.status.proofs.lists.put_behind.Goals as goal

pub loop-thing-preserved : goal.loop-thing-preserved
loop-thing-preserved g c =
    let f = g.F.Form.text c.args.form.now in
    put_item (λ x. 44 ∷ f x) (behind f) c.args.things.now c.loop-thing.thing-index
    c.thing-item.result c.loop-thing.page c.put-in-loop-thing.new.page _
    (λ y ys. refl) c.loop-thing-test.true c.thing-item.is
    (put_comma (f c.thing-item.result) c.loop-thing.page c.put.new.self c.put-in-loop-thing.new.page
    c.put.ensures c.put-in-loop-thing.ensures)
    c.loop-thing.invariant

pub returns : goal.returns
returns g c =
    put_all (behind (g.F.Form.text c.args.form.now)) c.args.things.now c.loop-thing.thing-index
    c.loop-thing.page _ (omega arith) refl c.loop-thing.invariant
