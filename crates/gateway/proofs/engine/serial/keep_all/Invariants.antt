use Rattle.std.proofs.Common.{◌≡◌, ◌≤◌, length, drop}
use Rattle.std.specs.List.{AllByRecursion}
use Rattle.events.specs.Queue.{octets_of}
use Rattle.gateway.specs.Serial.{kept_until, all_kept}
use Rattle.gateway.proofs.engine.serial.keep_all.Given as goal

abbrev pub invariant-loop-piece : goal.invariant-loop-piece
invariant-loop-piece l = record {
  long : AllByRecursion (λ p. (9 ≤ length p.items) × (length p.items ≤ 249))
      (drop l.piece-index l.pieces);
  state : kept_until (octets_of (drop l.piece-index l.pieces)) l.commands
      ≡ kept_until (octets_of l.pieces) l.fn.commands;
  all : all_kept (octets_of (drop l.piece-index l.pieces)) l.commands
      ≡ all_kept (octets_of l.pieces) l.fn.commands;
}
