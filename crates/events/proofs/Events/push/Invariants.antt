use Rattle.std.proofs.Common.{◌≡◌, ◌≤◌, ◌+◌, ◌++◌, length}
use Rattle.events.specs.Queue.{kept, octets_of}
use Rattle.events.specs.Pieces.{AreAsdus}
use Rattle.events.proofs.Events.push.Given as goal

abbrev pub invariant-loop-piece : goal.invariant-loop-piece
invariant-loop-piece l = record {
  next : (goal.iterator-loop-piece).can_next l.piece-iterator;
  finite : (goal.iterator-loop-piece).is_finite l.piece-iterator;
  sent : l.self.sent ≡ l.initial.self.sent;
  unsent : l.self.unsent ++ octets_of l.piece-iterator ≡ l.initial.self.unsent
      ++ octets_of l.fn.pieces.items;
  places : l.self.places ≡ l.initial.self.places;
  room : length (kept l.self) + length l.piece-iterator ≤ l.self.places;
  asdus : AreAsdus l.piece-iterator;
}
