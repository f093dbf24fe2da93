use Rattle.std.proofs.Common.{sym, ap, ◌∙◌}
use Rattle.events.specs.Queue.{kept}
use Rattle.events.proofs.Marks.{kept-queue_of}
use Rattle.events.proofs.Events.kept.Goals as goal

pub returns : goal.returns
returns c =
    let e = c.self.inside in
    sym (kept-queue_of e.ring.items e.sent e.places) ∙ ap kept c.self.view_is
