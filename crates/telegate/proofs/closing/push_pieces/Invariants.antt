use Rattle.std.proofs.Common.{◌≡◌, ◌++◌, string_bytes}
use Rattle.std.specs.List.{flat_map}
use Rattle.events.specs.Queue.{kept}
use Rattle.telegate.specs.Closing.{left_line}
use Rattle.telegate.proofs.closing.push_pieces.Given as goal

abbrev pub invariant-loop-piece : goal.invariant-loop-piece
invariant-loop-piece l = string_bytes l.lines ++ flat_map left_line l.piece-iterator
    ≡ string_bytes l.initial.lines
    ++ flat_map left_line (kept l.gateway.centre.queue)
