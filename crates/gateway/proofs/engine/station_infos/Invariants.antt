use Rattle.std.proofs.Common.{◌≡◌, map, take}
use Rattle.gateway.specs.Setups.{info_of}
use Rattle.gateway.proofs.engine.station_infos.Given as goal

abbrev pub invariant-loop-station : goal.invariant-loop-station
invariant-loop-station l = l.infos.items ≡ map info_of (take l.station-index l.config.stations)
