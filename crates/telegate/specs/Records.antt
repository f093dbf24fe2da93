-- How a text is read: as a trace, or as a record of a run (this gateway's own profile).
use Rattle.std.specs.Prelude.{◌≡◌, ℕ, Bool, true, false, not, ◌&&◌, List, ◌∷◌}
use Rattle.std.specs.List.{list_any}
use Rattle.record.specs.Lines.{event_lines, is_action, whole_lines}
use Rattle.gateway.specs.Log.{Came, LogEntry, Ticked}
use Rattle.traces.specs.Progress.{events_in}
use Rattle.traces.specs.Trace.{is_skipped, lines_of}
use Rattle.telegate.specs.declared.manner.Manner.{Manner}
use Rattle.telegate.specs.declared.manner.Manner.TheVariants.{Lines, Words}

-- a line is that of an action, and is no comment: a trace has none
abbrev pub is_action_line : List ℕ → Bool
is_action_line line = not (is_skipped line) && is_action line

-- a text with such a line is a record
abbrev pub is_record : List ℕ → Bool
is_record text = list_any is_action_line (lines_of text)

-- The lines of a text as they are read. Of a record these are the lines that a line feed ends, with
-- an empty one in the place of each action, and of each line that was cut short.
abbrev pub lines_read : (as_record : Bool) → (text : List ℕ) → List (List ℕ)
lines_read false text = lines_of text
lines_read true text = event_lines (whole_lines text)

-- a tick at moment 0 comes before the events of a trace, and none before those of a record
abbrev pub behind_tick : (as_record : Bool) → List LogEntry → List LogEntry
behind_tick false events = Came 0 Ticked ∷ events
behind_tick true events = events

-- the events of a run over a text
abbrev pub script_read : (as_record : Bool) → (text : List ℕ) → List LogEntry
script_read as_record text = behind_tick as_record (events_in (lines_read as_record text))

-- If the lines of actions are printed, a text is a trace. In words a record is printed too, and
-- this says whether a text whose octets may be these is one.
abbrev pub IsFound : Manner → (has : List ℕ → Type 0) → Bool → Type 0
IsFound Lines has found = found ≡ false
IsFound (Words is_coloured) has found =
    (text : List ℕ) × has text × (found ≡ is_record text)
