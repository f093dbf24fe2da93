use Rattle.std.proofs.Common.{◌≡◌, length}
use Rattle.runlog.specs.Logging.{Book, LogsEach, book_fixture}
use Rattle.runlog.proofs.logger.Logger.log_each.Given as goal

abbrev pub invariant-loop-left : goal.invariant-loop-left
invariant-loop-left g l = record {
  logs : (last : Book) → LogsEach l.left l.self last → LogsEach l.lines l.initial.self last;
  fixed : book_fixture l.self ≡ book_fixture l.initial.self;
}

abbrev pub decreases-loop-left : goal.decreases-loop-left
decreases-loop-left g l = length l.left
