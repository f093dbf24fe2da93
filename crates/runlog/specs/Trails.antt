-- What becomes of commands: a line for each, with the moment of its event, in the order of events
-- (this gateway's own profile).
use Rattle.std.specs.Prelude.{ℕ, ◌-◌, ◌==◌, nat_lt, Bool, List, [], ◌∷◌, ◌++◌, length, take}
use Rattle.std.specs.Prelude.{Option, Some, if◌then◌else◌}
use Rattle.runlog.specs.Limits.{none_left}
use Rattle.runlog.specs.declared.fate.CommandFate.{CommandFate}
use Rattle.runlog.specs.declared.note.LogLine.{LogLine}
use Rattle.runlog.specs.declared.note.Note.{Note}
use Rattle.runlog.specs.declared.note.Note.TheVariants as note
use Rattle.runlog.specs.declared.order.Order.{Order}

-- a line of this moment
abbrev pub at : (now : ℕ) → Note → LogLine
at now what = record { moment = now; note = what; left_out = none_left }

-- all is told
abbrev pub is_told : List LogLine → Bool
is_told lines = length lines == 0

-- one more is to be told, as far as there is place: of one step there is
abbrev pub added : Note → (now : ℕ) → List LogLine → List LogLine
added what now lines = if nat_lt (length lines) 128 then lines ++ at now what ∷ [] else lines

-- what is to be told behind others
abbrev pub appended : (more lines : List LogLine) → List LogLine
appended more lines = lines ++ take (128 - length lines) more

-- this became of a command at the station with this link address
abbrev pub fate_told : Option CommandFate → Option Order → (address now : ℕ) → List LogLine
    → List LogLine
fate_told (Some what) (Some o) address now lines = added (note.Fate o address what) now lines
fate_told what o address now lines = lines

-- these lines, the newest first, on others
abbrev pub newest_first : (lines before : List LogLine) → List LogLine
newest_first [] before = before
newest_first (line ∷ lines) before = newest_first lines (line ∷ before)
