-- A live run from its beginning on, and what its log begins with (this gateway's own profile).
use Rattle.std.specs.Prelude.{◌≡◌, ℕ, [], ◌∷◌, ◌++◌, All, Bool, true, false, not, ◌&&◌, ◌||◌}
use Rattle.std.specs.Prelude.{Option, None, IfSome, is_some}
use Rattle.gateway.specs.Log.{Log, LogEntry, Came, Went, Input}
use Rattle.live.specs.Cuts.{CutsFirst, is_wall_in}
use Rattle.live.specs.Ends.{LiveEnds}
use Rattle.live.specs.Late.{CountsLate, gone_of}
use Rattle.live.specs.OctetStreams.{IsNew}
use Rattle.live.specs.Passed.{HasNoAttempts, LiveRun, LogsEnds}
use Rattle.live.specs.Sights.{ShowsEnds}
use Rattle.live.specs.Walls.{never_given}
use Rattle.live.specs.declared.watched.EndsSight.{EndsSight}

-- Nothing has passed yet, and nothing has happened at the line and at the listener. A cut is due if
-- the run goes on after a restart, and else none is.
pub record IsStart (ends : LiveEnds) : Type 0 where
  pub log : ends.log ≡ []
  pub line : IsNew ends.line
  pub listener : HasNoAttempts ends.listener
  pub connection : ends.connection ≡ None
  pub held : ends.held ≡ []
  pub cut : ends.is_cut_due ≡ ends.goes_on
  pub walled : ends.walled ≡ never_given
  pub failed : ends.failed ≡ 0
  pub late : ends.late ≡ 0

-- the ends came from such a start by events and actions alone
pub record IsInRun (ends : LiveEnds) : Type 0 where
  pub start : LiveEnds
  pub new : IsStart start
  pub run : LiveRun start ends

-- the entry is no event
abbrev pub is_action : LogEntry → Bool
is_action (Came now event) = false
is_action (Went moment action) = true

-- The first event says what the wall clock shows.
abbrev pub WallFirst : Log → Type 0
WallFirst log = (later before : Log) (now : ℕ) (event : Input)
    → log ≡ later ++ (Came now event ∷ before) → All (λ entry. is_action entry ≡ true) before
    → is_wall_in event ≡ true

-- The log begins with the wall clock, and then, if the run goes on, with the cut of the connection
-- of the run before.
pub record BeginsSo (ends : LiveEnds) : Type 0 where
  pub wall : WallFirst ends.log
  pub cut : ends.goes_on ≡ true → CutsFirst ends.log

-- The log has what passed at the line, at the open connection and at the listener, from the first
-- octet on. So many octets were late as the line dropped, and it failed as often as it was found
-- gone.
pub record HasPassed (ends : LiveEnds) : Type 0 where
  pub log : LogsEnds ends.log ends
  pub late : CountsLate ends
  pub failed : IfSome ends.line (λ happened. ends.failed ≡ gone_of happened)

-- What is shown of a run from its beginning on.
pub record ShowsRun (ends : LiveEnds) (sight : EndsSight) : Type 0 where
  pub shows : ShowsEnds ends sight
  pub run : IsInRun ends
  pub begins : BeginsSo ends
  pub passed : HasPassed ends

-- no entry is an event
abbrev pub all_actions : Log → Bool
all_actions [] = true
all_actions (entry ∷ log) = is_action entry && all_actions log

-- an entry that may stand before any event has come
abbrev pub may_be_first : LogEntry → Bool
may_be_first (Came now event) = is_wall_in event
may_be_first (Went moment action) = true

-- as long as no event had come, each entry may stand there
abbrev pub wall_first : Log → Bool
wall_first [] = true
wall_first (entry ∷ log) = wall_first log && (not (all_actions log) || may_be_first entry)

-- the log so far begins with the wall clock, which wasn't given as long as no event had come
abbrev pub begins_by_wall : (given : Option ℕ) → Log → Bool
begins_by_wall given log = wall_first log && (not (all_actions log) || not (is_some given))
