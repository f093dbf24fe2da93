use Rattle.std.proofs.Common.{◌≡◌, ◌≤◌, ◌+◌, ◌++◌, length}
use Rattle.asdu.specs.Reading.{value_of}
use Rattle.asdu.specs.Translation.{report_pieces}
use Rattle.events.specs.Pieces.{AreSendable}
use Rattle.events.specs.Queue.{kept}
use Rattle.events.proofs.Events.push_report.Given as goal

abbrev pub invariant-loop-left : goal.invariant-loop-left
invariant-loop-left l = record {
  sent : l.self.sent ≡ l.initial.self.sent;
  unsent : l.self.unsent ++ l.left ≡ l.initial.self.unsent ++ report_pieces (value_of l.fn.asdu);
  places : l.self.places ≡ l.initial.self.places;
  room : length (kept l.self) + length l.left ≤ l.self.places;
  lengths : AreSendable l.left;
}

abbrev pub decreases-loop-left : goal.decreases-loop-left
decreases-loop-left l = length l.left
