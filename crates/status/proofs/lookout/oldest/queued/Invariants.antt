use Rattle.std.proofs.Common.{◌≡◌}
use Rattle.status.specs.Oldest.{ended_from, pieces_in}
use Rattle.status.proofs.lookout.oldest.queued.Given as goal

abbrev pub invariant-loop-piece : goal.invariant-loop-piece
invariant-loop-piece l = ended_from l.ended l.piece-iterator ≡ ended_from 0 (pieces_in l.gateway)
