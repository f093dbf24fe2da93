use Rattle.std.proofs.Common.{◌≡◌, map, take}
use Rattle.gateway.specs.Carried.{seat_of}
use Rattle.gateway.proofs.engine.carrying.seats.Given as goal

abbrev pub invariant-loop-station : goal.invariant-loop-station
invariant-loop-station l = l.found.items
    ≡ map (seat_of l.before.stations) (take l.station-index l.now.stations)
