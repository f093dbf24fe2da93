use Rattle.std.proofs.Common.{◌≡◌, take, drop}
use Rattle.std.specs.List.{All, AllZip}
use Rattle.std.specs.Option.{ForSome}
use Rattle.status.specs.Seats.{IsYoung}
use Rattle.status.specs.Visits.{IsSeatTurn, place}
use Rattle.status.proofs.visitors.turn_each.Given as goal

abbrev pub invariant-loop-seat : goal.invariant-loop-seat
invariant-loop-seat g l = record {
  young : All (λ s. ForSome s.client (λ v. IsYoung l.now_ms v.since_ms))
      (take l.seat-index l.seats);
  turned : AllZip (λ old new.
      IsSeatTurn g.S.Stream.given g.S.Stream.taken g.S.Stream.calls l.now_ms l.snapshot
      (place old.client old.desk) (place new.client new.desk))
      (take l.seat-index l.initial.seats) (take l.seat-index l.seats);
  behind : drop l.seat-index l.seats ≡ drop l.seat-index l.initial.seats;
}
