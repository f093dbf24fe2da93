use Rattle.std.proofs.Common.{refl}
use Rattle.traces.specs.Event.{cut, line, opening, received, tick, wall}
use Rattle.state.proofs.laws.a_line_can_hold_each_event.Goals as goal

pub returns-clause-octets : goal.returns-clause-octets
returns-clause-octets c = λ now octets within bytes some few. (
  (line now octets, (within, bytes, some, few), refl),
  (received now octets, (within, bytes, some, few), refl),
)

pub returns-clause-bare : goal.returns-clause-bare
returns-clause-bare c = λ now within. (
  (opening now, within, refl),
  (cut now, within, refl),
  (tick now, within, refl),
)

pub returns-clause-wall : goal.returns-clause-wall
returns-clause-wall c = λ now number within few. (wall now number, (within, few), refl)
