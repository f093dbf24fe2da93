use Rattle.std.proofs.Common.{◌≡◌, [], ◌++◌, length}
use Rattle.std.specs.List.{AllByRecursion}
use Rattle.checkpoint.specs.Octets.{IsOctetLine}
use Rattle.events.specs.Pieces.{AreSendable}
use Rattle.events.proofs.Events.read_pieces.Given as goal

abbrev pub invariant-loop-piece : goal.invariant-loop-piece
invariant-loop-piece g l = record {
  sent : l.self.sent ≡ [];
  places : l.self.places ≡ l.fn.self.places;
  number : length l.self.unsent ≡ l._piece;
  sendable : AreSendable l.self.unsent;
  octets : AllByRecursion IsOctetLine l.self.unsent;
  lines : g.L.Lines.coming l.fn.lines ≡ l.self.unsent ++ g.L.Lines.coming l.lines;
}
