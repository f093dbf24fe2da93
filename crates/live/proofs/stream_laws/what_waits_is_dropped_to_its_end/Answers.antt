use Rattle.live.proofs.CallSums.{counted, emptied}
use Rattle.live.proofs.stream_laws.what_waits_is_dropped_to_its_end.Goals as goal

pub returns-clause-empty : goal.returns-clause-empty
returns-clause-empty c = emptied

pub returns-clause-counted : goal.returns-clause-counted
returns-clause-counted c = counted
