-- No line that was passed is that of an action.
use Rattle.std.proofs.Common.{◌≡◌}
use Rattle.traces.specs.Trace.{lines_of}
use Rattle.telegate.proofs.RecordLemmas.{have_actions}
use Rattle.telegate.proofs.recorded.have_actions.Given as goal

abbrev pub invariant-seeking : goal.invariant-seeking
invariant-seeking l =
    have_actions (lines_of l.fn.lines) ≡ have_actions (lines_of l.left)
