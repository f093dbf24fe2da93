use Rattle.std.proofs.Common.{◌≡◌}
use Rattle.state.proofs.files.marks.Marks.unread_number.Given as goal

abbrev pub invariant-loop-number : goal.invariant-loop-number
invariant-loop-number g l =
    (l.self.mark ≡ l.initial.self.mark) × (l.self.is_locked ≡ l.initial.self.is_locked)
