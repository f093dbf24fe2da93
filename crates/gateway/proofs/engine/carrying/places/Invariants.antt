use Rattle.std.proofs.Common.{◌≡◌, map, take}
use Rattle.link.specs.declared.seat.ResumedStation.{ResumedStation}
use Rattle.gateway.proofs.engine.carrying.places.Given as goal

abbrev pub invariant-loop-seat : goal.invariant-loop-seat
invariant-loop-seat l = l.found.items
    ≡ map (λ (s : ResumedStation). s.before) (take l.seat-index l.seats)
