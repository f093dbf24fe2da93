use Rattle.std.proofs.Common.{◌≡◌, drop}
use Rattle.status.specs.TextPage.{put}
use Rattle.status.specs.Words.{behind}
use Rattle.status.proofs.lists.put_behind.Given as goal

abbrev pub invariant-loop-thing : goal.invariant-loop-thing
invariant-loop-thing g l =
    put (behind (g.F.Form.text l.form) (drop l.thing-index l.things)) l.page
    ≡ put (behind (g.F.Form.text l.form) l.things) l.fn.page
