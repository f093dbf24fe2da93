use Rattle.std.proofs.Common.{refl}
use Rattle.hex.specs.Hex.{decode_pairs}
use Rattle.traces.proofs.readings.trace_lines_by_example.Goals as goal

pub returns-clause-events : goal.returns-clause-events
unfolding decode_pairs
returns-clause-events c = (refl, refl, refl, refl, refl, refl)

pub returns-clause-numbers : goal.returns-clause-numbers
returns-clause-numbers c = (refl, refl, refl, refl, refl, refl)

pub returns-clause-fields : goal.returns-clause-fields
unfolding decode_pairs
returns-clause-fields c = (refl, refl, refl, refl, refl, refl, refl)

pub returns-clause-octets : goal.returns-clause-octets
unfolding decode_pairs
returns-clause-octets c = (refl, refl)

pub returns-clause-skipped : goal.returns-clause-skipped
returns-clause-skipped c = (refl, refl, refl, refl)

pub returns-clause-texts : goal.returns-clause-texts
returns-clause-texts c = (refl, refl, refl, refl)
