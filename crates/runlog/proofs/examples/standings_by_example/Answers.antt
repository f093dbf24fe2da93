use Rattle.std.proofs.Common.{refl}
use Rattle.runlog.proofs.examples.standings_by_example.Goals as goal

pub returns-clause-standings : goal.returns-clause-standings
returns-clause-standings c = refl

pub returns-clause-unasked : goal.returns-clause-unasked
returns-clause-unasked c = refl
