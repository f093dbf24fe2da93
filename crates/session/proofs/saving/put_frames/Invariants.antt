use Rattle.std.proofs.Common.{◌≡◌, ◌++◌, length}
use Rattle.session.specs.Restored.{frame_lines}
use Rattle.session.proofs.saving.put_frames.Given as goal

abbrev pub invariant-loop-frame : goal.invariant-loop-frame
invariant-loop-frame g l =
    g.S.Sheet.written l.sheet ++ frame_lines l.left ≡ g.S.Sheet.written l.fn.sheet
    ++ frame_lines l.frames.items

abbrev pub decreases-loop-frame : goal.decreases-loop-frame
decreases-loop-frame g l = length l.left
