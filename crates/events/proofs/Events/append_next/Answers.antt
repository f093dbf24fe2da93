use Rattle.std.proofs.Common.{[], ◌∷◌, take, sym, ap, ◌∙◌}
use Rattle.events.specs.Queue.{queue_of}
use Rattle.events.proofs.Marks.{behind, queue_of-pushed}
use Rattle.events.proofs.Events.append_next.Goals as goal

pub returns-clause-queue : goal.returns-clause-queue
returns-clause-queue c =
    let e = c.self.inside in
    let octets = c.push_next.ensures.0 in
    ap (λ r. queue_of r.items e.sent e.places) c.push_next.ensures.1
    ∙ queue_of-pushed e.ring.items (record { items = octets } ∷ []) e.sent e.places
    c.self.invariant.within
    ∙ ap (behind (octets ∷ [])) c.self.view_is
    ∙ ap (λ ps. behind (take 1 ps) c.args.self.now) (sym c.push_next.ensures.2)
