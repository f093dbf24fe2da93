use Rattle.std.proofs.Common.{ap, sym, ◌∙◌}
use Rattle.circular_buffer.specs.Buffer.{Buffer}
use Rattle.events.specs.Queue.{kept, octets_of}
use Rattle.events.proofs.Marks.{kept-queue_of}
use Rattle.events.proofs.Events.into_ring.Goals as goal

pub returns-clause-pieces : goal.returns-clause-pieces
returns-clause-pieces c =
    let e = c.self.inside in
    ap (λ (b : Buffer _). octets_of b.items) c.into_buffer.ensures
    ∙ sym (kept-queue_of e.ring.items e.sent e.places)
    ∙ ap kept c.self.view_is
