use Rattle.std.proofs.Common.{◌≡◌, ◌++◌, take, drop, List, ℕ, length}
use Rattle.session.specs.declared.kinds.Unacknowledged.{Unacknowledged}
use Rattle.session.specs.Restored.{frame_lines}
use Rattle.session.proofs.ReadBack.{Read}
use Rattle.session.proofs.saving.read_frames.Given as goal

abbrev pub invariant-loop-i : goal.invariant-loop-i
invariant-loop-i g l = record {
  back : (fs : List Unacknowledged) (rest : List (List ℕ)) → length fs ≡ l.fn.count
      → g.L.Lines.coming l.fn.lines ≡ frame_lines fs ++ rest
      → (l.frames.items ≡ l.fn.frames.items ++ take l._i fs)
      × (g.L.Lines.coming l.lines ≡ frame_lines (drop l._i fs) ++ rest);
  exact : Read l.fn.frames.items l.frames.items (g.L.Lines.coming l.fn.lines)
      (g.L.Lines.coming l.lines) l._i;
  room : l.frames.capacity ≡ l.fn.frames.capacity;
}
