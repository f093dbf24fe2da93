use Rattle.elements.proofs.Moments.{good, marked}
use Rattle.elements.proofs.laws.tags_of_moments_are_good.Goals as goal

pub returns-clause-good : goal.returns-clause-good
returns-clause-good c = good

pub returns-clause-marked : goal.returns-clause-marked
returns-clause-marked c = marked
