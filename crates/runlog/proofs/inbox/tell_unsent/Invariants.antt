use Rattle.std.proofs.Common.{◌≡◌, length}
use Rattle.runlog.specs.Inbox.{unsent_told}
use Rattle.runlog.proofs.inbox.tell_unsent.Given as goal

abbrev pub invariant-loop-left : goal.invariant-loop-left
invariant-loop-left l =
    unsent_told l.now l.left l.trail ≡ unsent_told l.now l.orders l.initial.trail

abbrev pub decreases-loop-left : goal.decreases-loop-left
decreases-loop-left l = length l.left
