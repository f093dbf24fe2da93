use Rattle.status.proofs.SightLaws.{gone, never}
use Rattle.status.proofs.lookout.sight_laws.the_centre_is_shown_as_it_is.Goals as goal

pub returns-clause-never : goal.returns-clause-never
returns-clause-never c d names keeps looks last s k = never d names keeps looks last s k

pub returns-clause-gone : goal.returns-clause-gone
returns-clause-gone c d names keeps looks last s k = gone d names keeps looks last s k
