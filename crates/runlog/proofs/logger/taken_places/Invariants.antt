use Rattle.std.proofs.Common.{◌≡◌, ◌+◌, ◌-◌, ◌^◌, ◌≤◌, length}
use Rattle.events.specs.Queue.{kept}
use Rattle.runlog.specs.Logging.{counted}
use Rattle.runlog.proofs.logger.taken_places.Given as goal

abbrev pub invariant-loop-piece : goal.invariant-loop-piece
invariant-loop-piece l = record {
  logged : l.taken ≤ 2 ^ 64 - 1;
  all : counted (l.taken + length l.piece-iterator)
      ≡ counted (length (kept l.gateway.centre.queue));
}
