use Rattle.std.proofs.Common.{◌≡◌, map, take}
use Rattle.std.specs.List.{AllByRecursion}
use Rattle.status.specs.Visits.{IsTaken, place}
use Rattle.status.proofs.visitors.Visitors.admit.Given as goal

abbrev pub invariant-loop-seat : goal.invariant-loop-seat
invariant-loop-seat g l = record {
  same : l.seat-items ≡ l.initial.seat-items;
  taken : AllByRecursion IsTaken
      (map (λ seat. place seat.client seat.desk) (take l.seat-index l.seat-items));
}
