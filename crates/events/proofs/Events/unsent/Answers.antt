use Rattle.std.proofs.Common.{◌≡◌, ◌∷◌, drop, ap, sym, ◌∙◌}
use Rattle.events.specs.Queue.{Queue, octets_of}
use Rattle.events.proofs.Marks.{unsent_some, unsent_none}
use Rattle.events.proofs.Events.unsent.Goals as goal

pub returns-in_err-piece-clause-none : goal.returns-in_err-piece-clause-none
returns-in_err-piece-clause-none c =
    let e = c.self.inside in
    rw c.from_residual.ensures
    (sym (ap (λ (q : Queue). q.unsent) c.self.view_is)
    ∙ unsent_none e.ring.items e.sent (sym c.in_err-piece.ensures))

pub returns-clause-some : goal.returns-clause-some
returns-clause-some c =
    let e = c.self.inside in
    let view : octets_of (drop e.sent e.ring.items) ≡ c.args.self.now.unsent =
    ap (λ (q : Queue). q.unsent) c.self.view_is in
    sym view ∙ unsent_some e.ring.items e.sent c.in_ok-piece.piece.now (sym c.in_ok-piece.ensures)
    ∙ ap (λ y. y ∷ drop 1 (octets_of (drop e.sent e.ring.items))) (sym c.as_slice.ensures.value)
    ∙ ap (λ u. c.as_slice.result.now ∷ drop 1 u) view
