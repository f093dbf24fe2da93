-- The log of a run: the events that came in and the actions that went out, the newest first
-- (profile). Within a step the event comes first, and then its actions.
use Rattle.std.specs.Prelude.{ℕ, min, max, List, [], ◌∷◌, ◌++◌, Option, Some, None}
use Rattle.session.specs.declared.kinds.Close.{Close}

-- what comes in
pub data Input : Type 0 where
  LineIn : (octets : List ℕ) → Input
  Opened : Input
  TcpIn : (octets : List ℕ) → Input
  CutOff : Input
  Ticked : Input
  -- the wall clock shows so many milliseconds since 1970-01-01 UTC
  WallIs : (number : ℕ) → Input
  -- The gateway was started again, and goes on from what it had on disk. The connection is over, as
  -- behind a cut, and each command without an answer is given up. No port gives it.
  Restarted : Input

-- what goes out
pub data Output : Type 0 where
  LineOut : (octets : List ℕ) → Output
  TcpOut : (octets : List ℕ) → Output
  Closed : (cause : Close) → Output
  -- a session of the station's link has ended, and its last report may be lost
  GapOut : (station session : ℕ) → Output

-- an event or an action, with its moment in milliseconds
pub data LogEntry : Type 0 where
  Came : (now : ℕ) → (event : Input) → LogEntry
  Went : (now : ℕ) → (action : Output) → LogEntry

abbrev pub Log : Type 0
Log = List LogEntry

-- A log with these news. A port that gives no log goes on giving none.
abbrev pub with_news : Option Log → Log → Option Log
with_news None news = None
with_news (Some log) news = Some (news ++ log)

-- the events of a log with their moments, the oldest first
abbrev pub events_of : Log → List LogEntry
events_of [] = []
events_of (Came now event ∷ log) = events_of log ++ Came now event ∷ []
events_of (Went now action ∷ log) = events_of log

-- the greatest moment that counts
abbrev pub last_moment : ℕ
last_moment = 999999999999999

-- The moment of the latest step: one that goes back counts as the greatest so far, and one past the
-- last as the last.
abbrev pub latest : Log → ℕ
latest [] = 0
latest (Came now event ∷ log) = max (latest log) (min now last_moment)
latest (Went now action ∷ log) = latest log
