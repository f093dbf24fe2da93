use Rattle.std.proofs.Common.{◌<◌, ◌∙◌, length, sym, ap, arith}
use Rattle.std.specs.Prelude.{Err}
use Rattle.events.proofs.TakenUp.{faulted, next_is, wrongly_refused}
use Rattle.events.proofs.Events.read_pieces.Goals as goal

pub returns-in_err-next_octets-clause-back : goal.returns-in_err-next_octets-clause-back
returns-in_err-next_octets-clause-back g c = λ pieces rest number fits octets came wrong.
    let loop = c.loop-piece.invariant in
    let lt : length c.loop-piece.self.unsent < length pieces =
    omega (arith, number, loop.number, c.loop-piece-test.true) in
    let next = next_is c.loop-piece.self.unsent (g.L.Lines.coming c.loop-piece.lines) pieces rest lt
    (sym loop.lines ∙ came) fits octets in
    let fault = faulted c.from_residual.result c.in_err-next_octets.field-0.0 _
    c.from_residual.ensures.1 wrong in
    c.in_err-next_octets.ensures.none (ap (λ f. Err f) fault) next.0 next.1 next.4 next.2

pub returns-in_err-piece-clause-back : goal.returns-in_err-piece-clause-back
returns-in_err-piece-clause-back g c = λ pieces rest number fits octets came wrong.
    let loop = c.loop-piece.invariant in
    let lt : length c.loop-piece.self.unsent < length pieces =
    omega (arith, number, loop.number, c.loop-piece-test.true) in
    let next = next_is c.loop-piece.self.unsent (g.L.Lines.coming c.loop-piece.lines) pieces rest lt
    (sym loop.lines ∙ came) fits octets in
    wrongly_refused c.sendable.result _ _ _ _ _ _ c.in_err-piece.ensures.ok_part
    c.sendable.ensures.none
    c.deref.ensures.value c.in_ok-next_octets.ensures.some next.2 next.3
