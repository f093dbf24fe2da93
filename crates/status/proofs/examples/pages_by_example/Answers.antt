use Rattle.std.proofs.Common.{refl}
use Rattle.std.specs.Fmt.{digits}
use Rattle.status.proofs.examples.pages_by_example.Goals as goal

pub returns-clause-station : goal.returns-clause-station
unfolding digits
returns-clause-station c s name = rw name

pub returns-clause-centre : goal.returns-clause-centre
unfolding digits
returns-clause-centre c s = refl

pub returns-clause-state : goal.returns-clause-state
unfolding digits
returns-clause-state c s = refl

pub returns-clause-syncs : goal.returns-clause-syncs
unfolding digits
returns-clause-syncs c = refl

pub returns-clause-seconds : goal.returns-clause-seconds
unfolding digits
returns-clause-seconds c = (refl, refl)

pub returns-clause-families : goal.returns-clause-families
unfolding digits
returns-clause-families c s = refl

pub returns-clause-quality : goal.returns-clause-quality
unfolding digits
returns-clause-quality c s = refl

pub returns-clause-info : goal.returns-clause-info
unfolding digits
returns-clause-info c s name = rw name

pub returns-clause-row : goal.returns-clause-row
unfolding digits
returns-clause-row c s name = rw name

pub returns-clause-cells : goal.returns-clause-cells
unfolding digits
returns-clause-cells c s name = rw name

pub returns-clause-heads : goal.returns-clause-heads
returns-clause-heads c = refl

pub returns-clause-event : goal.returns-clause-event
unfolding digits
returns-clause-event c s e name text = rw (name, text)

pub returns-clause-marks : goal.returns-clause-marks
unfolding digits
returns-clause-marks c = (refl, refl)
