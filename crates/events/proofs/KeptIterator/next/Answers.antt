use Rattle.std.proofs.Common.{◌<◌, ◌∷◌, length, drop, sym, ap, ◌∙◌, ◌+◌, arith}
use Rattle.std.proofs.lemmas.Option.{slice_get_within}
use Rattle.events.specs.Queue.{octets_of}
use Rattle.events.proofs.Marks.{unsent_none, lent_some}
use Rattle.events.proofs.KeptIterator.next.Goals as goal

pub returns-in_err-piece-clause-steps : goal.returns-in_err-piece-clause-steps
returns-in_err-piece-clause-steps c =
    let e = c.self.inside in
    let over = sym c.self.view_is ∙ unsent_none e.ring.now.items e.next
    (sym c.in_err-piece.ensures) in
    rw c.from_residual.ensures (over, over)

pub prove-unreachable-requires : goal.prove-unreachable-requires
prove-unreachable-requires c =
    let e = c.self.inside in
    let lt : e.next < length e.ring.now.items =
    slice_get_within e.ring.now.items e.next c.in_ok-piece.piece.now
    (sym c.in_ok-piece.ensures) in
    omega (arith, lt, c.len.ensures.len, c.if-prove.true)

pub returns-clause-steps : goal.returns-clause-steps
returns-clause-steps c =
    let e = c.self.inside in
    let items = e.ring.now.items in
    sym c.self.view_is
    ∙ lent_some items e.next c.in_ok-piece.piece.now (sym c.in_ok-piece.ensures)
    ∙ ap (λ y. y ∷ octets_of (drop (e.next + 1) items)) (sym c.as_slice.ensures.value)
