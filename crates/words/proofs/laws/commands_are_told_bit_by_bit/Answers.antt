use Rattle.std.proofs.Common.{refl}
use Rattle.words.proofs.Opened.{values_open}
use Rattle.words.proofs.laws.commands_are_told_bit_by_bit.Goals as goal

pub returns-clause-switches : goal.returns-clause-switches
unfolding values_open
returns-clause-switches c = λ o. (refl, refl, refl)

pub returns-clause-set_points : goal.returns-clause-set_points
unfolding values_open
returns-clause-set_points c = λ a b q. (refl, refl)

pub returns-clause-interrogations : goal.returns-clause-interrogations
unfolding values_open
returns-clause-interrogations c = λ o. refl

pub returns-clause-tagged : goal.returns-clause-tagged
unfolding values_open
returns-clause-tagged c = λ xs. (refl, refl, refl, refl, refl)
