use Rattle.std.proofs.Common.{refl}
use Rattle.state.proofs.GapPlaces.{there, told}
use Rattle.state.proofs.start_laws.a_gap_is_told_of_its_own_station.Goals as goal

pub returns-clause-told : goal.returns-clause-told
returns-clause-told c = told

pub returns-clause-there : goal.returns-clause-there
returns-clause-there c = there

pub returns-clause-none : goal.returns-clause-none
returns-clause-none c = λ before now. refl
