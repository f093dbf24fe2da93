use Rattle.std.proofs.Common.{◌≡◌, ℕ, List, map, take}
use Rattle.std.specs.Prelude.{string_bytes}
use Rattle.telegate.proofs.host.names_of.Given as goal

abbrev pub invariant-loop-station : goal.invariant-loop-station
invariant-loop-station l = map {B = ℕ × List ℕ} (λ s. (s.link, s.name.now)) l.called.items
    ≡ map (λ s. (s.link, string_bytes s.name)) (take l.station-index l.stations)
