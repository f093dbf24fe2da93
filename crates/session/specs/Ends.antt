-- When the calls of a session have no more to answer.
use Rattle.std.specs.Prelude.{◌≡◌, ℕ, ◌≤◌, false, List, [], ◌∷◌, None}
use Rattle.session.specs.declared.kinds.Unacknowledged.{Unacknowledged}
use Rattle.session.specs.Session.{Session, confirmed, pulled, timed_out}

-- the session after `confirm`, whatever that answers
abbrev pub after_confirm : Session → Session
after_confirm s = (confirmed s).1

-- the session after `pull`, whatever that answers
abbrev pub after_pull : ℕ → Session → Session
after_pull now s = (pulled now s).1

-- no confirmation is due
abbrev pub IsConfirmed : Session → Type 0
IsConfirmed s = (confirmed s).0 ≡ None

-- t1 hasn't run out
abbrev pub IsInTime : ℕ → Session → Type 0
IsInTime now s = timed_out now s ≡ false

-- The frames went out one after another, the first not before `from`, and the last not after `now`.
abbrev pub AreInOrder : ℕ → List Unacknowledged → ℕ → Type 0
AreInOrder from [] now = from ≤ now
AreInOrder from (frame ∷ frames) now = (from ≤ frame.moment) × AreInOrder frame.moment frames now
