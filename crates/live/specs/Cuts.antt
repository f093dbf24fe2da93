-- Cuts that are due, and how the log of a run begins in which one was due at first (this gateway's
-- own profile).
use Rattle.std.specs.Prelude.{◌≡◌, ℕ, [], ◌∷◌, ◌++◌, All, Bool, true, false, not, ◌&&◌, ◌||◌}
use Rattle.gateway.specs.Log.{Log, LogEntry, Came, Went, Input, CutOff, WallIs, Output, Closed}
use Rattle.session.specs.declared.kinds.Close.TheVariants.{Replaced}

-- The action shuts no connection: it is no close, or that of a connection which another has
-- replaced.
abbrev pub shuts_nothing : Output → Bool
shuts_nothing (Closed Replaced) = true
shuts_nothing (Closed cause) = false
shuts_nothing action = true

-- the event says what the wall clock shows
abbrev pub is_wall_in : Input → Bool
is_wall_in (WallIs number) = true
is_wall_in event = false

-- a cut that was due is due still behind this entry
abbrev pub leaves_due : LogEntry → Bool
leaves_due (Came now event) = is_wall_in event
leaves_due (Went moment action) = shuts_nothing action

-- The first event but the wall clock's is a cut, if nothing before it shut the connection.
abbrev pub CutsFirst : Log → Type 0
CutsFirst log = (later before : Log) (now : ℕ) (event : Input)
    → log ≡ later ++ (Came now event ∷ before) → All (λ entry. leaves_due entry ≡ true) before
    → is_wall_in event ≡ false → event ≡ CutOff

-- behind all these entries too
abbrev pub all_leave_due : Log → Bool
all_leave_due [] = true
all_leave_due (entry ∷ log) = leaves_due entry && all_leave_due log

-- an entry that may stand while a cut is due
abbrev pub is_next_of_due : LogEntry → Bool
is_next_of_due (Came now CutOff) = true
is_next_of_due (Came now event) = is_wall_in event
is_next_of_due (Went moment action) = true

-- as long as a cut was due that was so at first, each entry may stand there
abbrev pub cuts_first : Log → Bool
cuts_first [] = true
cuts_first (entry ∷ log) = cuts_first log && (not (all_leave_due log) || is_next_of_due entry)

-- In a run that goes on after a restart the log so far cuts first, and the cut is due as long as
-- nothing ended that.
abbrev pub begins_so : (goes_on is_cut_due : Bool) → Log → Bool
begins_so false is_cut_due log = true
begins_so true is_cut_due log = cuts_first log && (not (all_leave_due log) || is_cut_due)
