use Rattle.std.proofs.Common.{◌≡◌, map, take}
use Rattle.std.specs.List.{All}
use Rattle.link.specs.declared.seat.ResumedStation.{ResumedStation}
use Rattle.link.specs.Holding.{FitsStation}
use Rattle.link.specs.Carried.{seated}
use Rattle.link.proofs.master.Master.reseated.Given as goal

abbrev pub invariant-loop-seat : goal.invariant-loop-seat
invariant-loop-seat l = record {
  stations : l.stations.items
      ≡ map (λ (s : ResumedStation). seated l.fn.settings.retries s.address l.fn.self.stations
      s.before)
      (take l.seat-index l.seats);
  fit : All (FitsStation l.fn.settings.size) l.stations.items;
}
