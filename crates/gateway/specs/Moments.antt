-- The moments of a log (profile).
use Rattle.std.specs.Prelude.{◌≡◌, ℕ, ◌≤◌, ◌⊎◌, min, [], ◌∷◌, ◌++◌}
use Rattle.std.specs.List.{AllByRecursion}
use Rattle.session.specs.History as talk
use Rattle.session.specs.History.{Happened, History}
use Rattle.gateway.specs.Log.{Log, LogEntry, Came, Went, latest}

-- An event bears the moment that its port gave, and one past the greatest counts as that; an action
-- bears the moment of its step.
abbrev pub moment_of : LogEntry → ℕ
moment_of (Came now event) = min now 999999999999999
moment_of (Went now action) = now

-- it is the moment of one of these events, or 0 as before the first
abbrev pub IsOneOf : ℕ → Log → Type 0
IsOneOf at [] = at ≡ 0
IsOneOf at (Came now event ∷ log) = (at ≡ moment_of (Came now event)) ⊎ IsOneOf at log
IsOneOf at (Went now action ∷ log) = IsOneOf at log

-- The moment at which a step acts is the greatest that was given so far: an event whose moment goes
-- back is taken at the greatest one before it.
pub record IsGreatest (log : Log) (at : ℕ) : Type 0 where
  pub counts : at ≤ 999999999999999
  pub none_later : AllByRecursion (λ entry. moment_of entry ≤ at) log
  pub logged : IsOneOf at log

-- and so each action's; so none bears a moment before that of one before it
abbrev pub BearGreatest : Log → Type 0
BearGreatest [] = Unit {0}
BearGreatest (Went now action ∷ log) = IsGreatest log now × BearGreatest log
BearGreatest (Came now event ∷ log) = BearGreatest log

-- the moment that an entry of a connection's history bears
abbrev pub said_at : Happened → ℕ
said_at (talk.Opened now) = now
said_at (talk.Came frame now) = now
said_at (talk.Refused now) = now
said_at (talk.Sent ns nr kind now) = now
said_at (talk.Went frame now) = now

-- What was said on a connection is what each entry of the log added, or nothing; and what it added
-- bears the moment of its step.
abbrev pub IsSaidInSteps : Log → History → Type 0
IsSaidInSteps [] h = h ≡ []
IsSaidInSteps (entry ∷ log) h =
    (new : History) × (older : History) × (h ≡ new ++ older)
    × AllByRecursion (λ said. said_at said ≡ latest (entry ∷ log)) new × IsSaidInSteps log older
