use Rattle.std.proofs.Common.{arith, List, ℕ, ◌++◌, subst}
use Rattle.status.specs.TextPage.{shown}
use Rattle.status.specs.Seats.{IsNext}
use Rattle.status.proofs.SeatLemmas.{next_in_head, next_in_body}
use Rattle.status.proofs.seat.Desk.next.Goals as goal

pub returns-then-sent-head : goal.returns-then-sent-head
returns-then-sent-head c =
    subst (λ (h : List ℕ). IsNext (h ++ shown c.args.self.now.body) c.args.sent
    c.piece_of.result.now) c.octets-head.ensures
    (next_in_head c.octets-head.result.now (shown c.args.self.now.body) c.piece_of.result.now
    c.args.sent 16384 c.if-sent-head.true (omega arith) c.piece_of.ensures)

pub returns-else-sent-head : goal.returns-else-sent-head
returns-else-sent-head c =
    let piece = c.piece_of-else-sent-head.result.now in
    subst (λ (h : List ℕ). IsNext (h ++ shown c.args.self.now.body) c.args.sent piece)
    c.octets-head.ensures
    (subst (λ (b : List ℕ). IsNext (c.octets-head.result.now ++ b) c.args.sent piece)
    c.octets.ensures
    (next_in_body c.octets-head.result.now c.octets.result.now piece c.args.sent 16384
    c.if-sent-head.false (omega arith) c.piece_of-else-sent-head.ensures))
