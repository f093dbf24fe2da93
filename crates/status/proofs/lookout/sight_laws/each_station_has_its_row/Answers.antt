use Rattle.status.proofs.SightLaws.{each, row_of}
use Rattle.status.proofs.lookout.sight_laws.each_station_has_its_row.Goals as goal

pub returns : goal.returns
returns c = record {
  row = λ c names keeps looks last s k. row_of c names keeps looks last s k;
  each = λ c names keeps looks last s k. each c names keeps looks last s k;
}
