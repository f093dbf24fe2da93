use Rattle.std.proofs.Common.{refl}
use Rattle.link.proofs.examples.turns_by_example.Goals as goal

pub returns-clause-starts : goal.returns-clause-starts
returns-clause-starts c = (refl, refl, refl)

pub returns-clause-commands : goal.returns-clause-commands
returns-clause-commands c = (refl, refl, refl, refl)

pub returns-clause-polls : goal.returns-clause-polls
returns-clause-polls c = (refl, refl, refl, refl, refl)

pub returns-clause-held : goal.returns-clause-held
returns-clause-held c = (refl, refl, refl, refl, refl)

pub returns-clause-repeats : goal.returns-clause-repeats
returns-clause-repeats c = (refl, refl, refl, refl, refl, refl, refl, refl, refl, refl)

pub returns-clause-round : goal.returns-clause-round
returns-clause-round c = (refl, refl, refl, refl)
