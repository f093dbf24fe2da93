use Rattle.std.proofs.Common.{◌≡◌, false}
use Rattle.state.proofs.files.marks.Marks.lock.Given as goal

abbrev pub invariant-locking : goal.invariant-locking
invariant-locking g l =
    (l.self.mark ≡ l.initial.self.mark) × (l.self.is_locked ≡ false)
