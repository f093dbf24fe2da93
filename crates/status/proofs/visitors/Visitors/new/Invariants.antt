use Rattle.std.proofs.Common.{◌≡◌, None, map, replicate}
use Rattle.status.specs.Seats.{fresh_desk}
use Rattle.status.specs.Visits.{place}
use Rattle.status.proofs.visitors.Visitors.new.Given as goal

abbrev pub invariant-loop : goal.invariant-loop
invariant-loop g l = map (λ seat. place seat.client seat.desk) l.seats.items
    ≡ replicate l.counter (place None fresh_desk)
