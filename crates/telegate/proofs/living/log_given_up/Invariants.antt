use Rattle.std.proofs.Common.{◌≡◌, length, map}
use Rattle.runlog.specs.Logging.{Book, book_fixture}
use Rattle.state.specs.StartNotes.{note_of_given_up}
use Rattle.telegate.specs.Law.{LogsAll}
use Rattle.telegate.proofs.living.log_given_up.Given as goal

abbrev pub invariant-loop-left : goal.invariant-loop-left
invariant-loop-left g l = record {
  logs : (last : Book) → LogsAll (map note_of_given_up l.left) l.logger last
      → LogsAll (map note_of_given_up l.given_up) l.initial.logger last;
  fixed : book_fixture l.logger ≡ book_fixture l.initial.logger;
}

abbrev pub decreases-loop-left : goal.decreases-loop-left
decreases-loop-left g l = length l.left
