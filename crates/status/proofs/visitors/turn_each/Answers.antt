use Rattle.std.proofs.Common.{arith}
use Rattle.std.specs.Option.{ForSome}
use Rattle.status.specs.Seats.{IsYoung}
use Rattle.status.specs.Visits.{IsSeatTurn, place}
use Rattle.status.proofs.SeatLemmas.{all_more, all_done}
use Rattle.status.proofs.VisitLemmas.{drop_more, zip_done, zip_more}
use Rattle.status.proofs.visitors.turn_each.Goals as goal

pub loop-seat-preserved : goal.loop-seat-preserved
loop-seat-preserved g c = record {
  young = all_more (λ s. ForSome s.client (λ v. IsYoung c.args.now_ms v.since_ms)) c.loop-seat.seats
      c.loop-seat.seat-index _
      (omega arith) c.loop-seat.invariant.young c.turn.ensures.young;
  turned = zip_more c.args.seats.now c.loop-seat.seats c.loop-seat.seat-index c.seat-item.result
      c.turn.new.self (omega arith) (omega arith) c.loop-seat.invariant.behind
      (λ old new.
      IsSeatTurn g.S.Stream.given g.S.Stream.taken g.S.Stream.calls c.args.now_ms
      c.args.snapshot.now (place old.client old.desk) (place new.client new.desk))
      c.loop-seat.invariant.turned c.turn.ensures.turned;
  behind = drop_more c.args.seats.now c.loop-seat.seats c.loop-seat.seat-index c.seat-item.result
      c.turn.new.self (omega arith) (omega arith) c.loop-seat.invariant.behind;
}

pub returns : goal.returns
returns g c = record {
  young = all_done (λ s. ForSome s.client (λ v. IsYoung c.args.now_ms v.since_ms)) c.loop-seat.seats
      c.loop-seat.seat-index (omega arith) c.loop-seat.invariant.young;
  turned = zip_done
      (λ old new.
      IsSeatTurn g.S.Stream.given g.S.Stream.taken g.S.Stream.calls c.args.now_ms
      c.args.snapshot.now (place old.client old.desk) (place new.client new.desk))
      c.args.seats.now c.loop-seat.seats c.loop-seat.seat-index (omega arith) (omega arith)
      c.loop-seat.invariant.turned;
}
