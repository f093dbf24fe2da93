use Rattle.delivery.proofs.GapsOn.{gaps_of_station}
use Rattle.delivery.proofs.laws.gaps_are_reported_by_their_station.Goals as goal

pub returns : goal.returns
returns c = gaps_of_station
