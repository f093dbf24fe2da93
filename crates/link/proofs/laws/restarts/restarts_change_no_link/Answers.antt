use Rattle.std.proofs.Common.{ap}
use Rattle.link.specs.Turns.{StationState}
use Rattle.link.proofs.Doubting.{doubted_count, station_there, doubted_link, still_awaits}
use Rattle.link.proofs.Doubting.{still_polls}
use Rattle.link.proofs.laws.restarts.restarts_change_no_link.Goals as goal

pub returns : goal.returns
returns c = record {
  number = λ p. doubted_count p.stations;
  station = λ p k within. station_there p.stations k within;
  unsure = λ p k within. ap (λ (s : StationState). s.unsure) (station_there p.stations k within);
  link = λ p k. doubted_link p.stations k;
  awaited = still_awaits;
  polls = still_polls;
}
