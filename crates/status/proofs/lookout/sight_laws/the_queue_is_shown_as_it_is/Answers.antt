use Rattle.status.proofs.SightLaws.{hours, places, taken, unacknowledged}
use Rattle.status.proofs.lookout.sight_laws.the_queue_is_shown_as_it_is.Goals as goal

pub returns : goal.returns
returns c = record {
  places = λ c names keeps looks last s k. places c names keeps looks last s k;
  taken = λ c names keeps looks last s k. taken c names keeps looks last s k;
  unacknowledged = λ c names keeps looks last s k. unacknowledged c names keeps looks last s k;
  hour = λ c names keeps looks last s k. hours c names keeps looks last s k;
}
