use Rattle.std.proofs.Common.{arith, refl, true, false}
use Rattle.status.specs.Seats.{answer_on}
use Rattle.status.proofs.SeatLemmas.{kept_sent, turn_handed, within_all}
use Rattle.status.proofs.seat.send_more.Goals as goal

pub returns-clause-kept : goal.returns-clause-kept
returns-clause-kept g c =
    kept_sent _ _ _ _ _ _ c.in-Some.count _ c.next-piece.result.now c.requires.kept c.requires.stage
    c.next-piece.ensures c.in-Some.ensures.fits c.in-Some.ensures.taken c.in-Some.ensures.given

pub returns-then-client-count-clause-turn : goal.returns-then-client-count-clause-turn
returns-then-client-count-clause-turn g c =
    let within = within_all (answer_on c.args.desk.now) c.args.client.now.sent c.in-Some.count
    c.next-piece.result.now c.next-piece.ensures c.requires.kept.within c.in-Some.ensures.fits in
    let more = c.if-client-count.true in
    turn_handed _ _ _ _ true false _ c.requires.stage refl c.in-Some.ensures.hands (λ _. refl)
    (λ _ _. omega arith)
