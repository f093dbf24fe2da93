-- The text of a log (texts of this gateway's own profile): a line for each event, as a trace has
-- it, and one for each action, as a run prints it; and what such a text logs, line by line.
use Rattle.std.specs.Prelude.{◌≡◌, ℕ, ◌-◌, ◌<◌, ◌≤◌, ◌^◌, ◌==◌, nat_le, ◌&&◌, false, if◌then◌else◌}
use Rattle.std.specs.Prelude.{List, [], ◌∷◌, ◌++◌, codes, length, Option, Some, None, option_map}
use Rattle.std.specs.Option.{option_and_then}
use Rattle.std.specs.Result.{result_ok}
use Rattle.std.specs.List.{list_any, slice_split}
use Rattle.std.specs.Str.{bytes_eq}
use Rattle.std.specs.Fmt.{decimal}
use Rattle.hex.specs.Hex.{encode_upper, decode_of, IsBytes}
use Rattle.session.specs.declared.kinds.Close.{Close}
use Rattle.gateway.specs.Log.{Log, LogEntry, Came, Went, Input, LineIn, Opened, TcpIn, CutOff}
use Rattle.gateway.specs.Log.{Ticked, WallIs, Restarted, Output, LineOut, TcpOut, Closed, GapOut}
use Rattle.gateway.specs.Log.{last_moment}
use Rattle.gateway.specs.Entries.{cause_of, logged_of}
use Rattle.gateway.specs.declared.entries.StoredEntry.{StoredEntry}
use Rattle.gateway.specs.declared.entries.StoredEntry.TheVariants as stored
use Rattle.traces.specs.Fields.{digits_after}
use Rattle.traces.specs.Actions.{line_of}
use Rattle.traces.specs.Event.{Event}
use Rattle.traces.specs.Event as events
use Rattle.traces.specs.Trace.{lines_of, logged}

-- Printing

-- an event with octets, by its letter
abbrev pub event_line : (now letter : ℕ) → (octets : List ℕ) → List ℕ
event_line now letter octets =
    decimal now ++ (32 ∷ letter ∷ 32 ∷ []) ++ encode_upper octets ++ 10 ∷ []

-- octets from the line (S), a connection opens (O), octets from it (R), it is cut (C), a tick (T),
-- or the wall clock (W); a restart, which no port gives, has no line
abbrev pub line_of_event : ℕ → Input → List ℕ
line_of_event now (LineIn octets) = decimal now ++ codes " S " ++ encode_upper octets ++ 10 ∷ []
line_of_event now Opened = decimal now ++ codes " O" ++ 10 ∷ []
line_of_event now (TcpIn octets) = decimal now ++ codes " R " ++ encode_upper octets ++ 10 ∷ []
line_of_event now CutOff = decimal now ++ codes " C" ++ 10 ∷ []
line_of_event now Ticked = decimal now ++ codes " T" ++ 10 ∷ []
line_of_event now (WallIs number) = decimal now ++ codes " W " ++ decimal number ++ 10 ∷ []
line_of_event now Restarted = []

abbrev pub line_of_entry : LogEntry → List ℕ
line_of_entry (Came now event) = line_of_event now event
line_of_entry (Went now action) = line_of now action

-- the lines of a log, the oldest first
abbrev pub lines_of_log : Log → List ℕ
lines_of_log [] = []
lines_of_log (entry ∷ log) = lines_of_log log ++ line_of_entry entry

-- What is printed are octets and numbers of 64 bits, and no restart.
abbrev pub IsPrintableEvent : Input → Type 0
IsPrintableEvent (LineIn octets) = IsBytes octets
IsPrintableEvent (TcpIn octets) = IsBytes octets
IsPrintableEvent (WallIs number) = number < 2 ^ 64
IsPrintableEvent Restarted = ⊥
IsPrintableEvent event = Unit {0}

abbrev pub IsPrintableAction : Output → Type 0
IsPrintableAction (LineOut octets) = IsBytes octets
IsPrintableAction (TcpOut octets) = IsBytes octets
IsPrintableAction (GapOut station session) = (station < 2 ^ 64) × (session < 2 ^ 64)
IsPrintableAction (Closed cause) = Unit {0}

abbrev pub IsPrintable : LogEntry → Type 0
IsPrintable (Came now event) = (now < 2 ^ 64) × IsPrintableEvent event
IsPrintable (Went now action) = (now < 2 ^ 64) × IsPrintableAction action

-- an action that is stored is one of these; of an event this says nothing
abbrev pub IsPrintableEntry : StoredEntry → Type 0
IsPrintableEntry (stored.Came entry) = Unit {0}
IsPrintableEntry logged = IsPrintable (logged_of logged)

-- each action of a log is one of these
abbrev pub ArePrinted : Log → Type 0
ArePrinted [] = Unit {0}
ArePrinted (Came now event ∷ log) = ArePrinted log
ArePrinted (Went now action ∷ log) = IsPrintable (Went now action) × ArePrinted log

-- a text without `!` (33), with which who goes on with a record ends a line that was cut short
abbrev pub HasNoMark : List ℕ → Type 0
HasNoMark text = list_any (λ b. b == 33) text ≡ false

-- Traces

-- what a trace can hold: moments and numbers of 15 digits at most, and 1 to 1,024 octets
abbrev pub FitsTrace : Event → Type 0
FitsTrace (events.line now octets) =
    (now ≤ last_moment) × IsBytes octets × (1 ≤ length octets) × (length octets ≤ 1024)
FitsTrace (events.received now octets) =
    (now ≤ last_moment) × IsBytes octets × (1 ≤ length octets) × (length octets ≤ 1024)
FitsTrace (events.opening now) = now ≤ last_moment
FitsTrace (events.cut now) = now ≤ last_moment
FitsTrace (events.tick now) = now ≤ last_moment
FitsTrace (events.wall now number) = (now ≤ last_moment) × (number ≤ last_moment)

-- the first line of this text logs this event in a trace, and the others are those of this text
pub record IsFirstOf (event : Event) (whole text : List ℕ) : Type 0 where
  pub line : List ℕ
  pub lines : lines_of whole ≡ line ∷ lines_of text
  pub logged : logged line ≡ Some event

-- Reading

-- a number of one decimal digit or more
abbrev pub number_in : List ℕ → Option ℕ
number_in [] = None
number_in (digit ∷ digits) = digits_after 0 (digit ∷ digits)

-- octets in hexadecimal, each two digits of either case
abbrev pub octets_in_hex : List ℕ → Option (List ℕ)
octets_in_hex text = result_ok (decode_of text)

-- the cause with this number, 1 to 7
abbrev pub cause_numbered : ℕ → Option Close
cause_numbered n = if nat_le 1 n && nat_le n 7 then Some (cause_of n) else None

-- a gap of a station, from 1
abbrev pub gap_at : Option ℕ → Option ℕ → Option Output
gap_at None session = None
gap_at (Some place) None = None
gap_at (Some place) (Some session) =
    if nat_le 1 place then Some (GapOut (place - 1) session) else None

abbrev pub bare_by : (kind : List ℕ) → Option Input
bare_by kind =
    if bytes_eq kind (codes "T") then Some Ticked
    else if bytes_eq kind (codes "O") then Some Opened
    else if bytes_eq kind (codes "C") then Some CutOff
    else None

abbrev pub valued_by : (kind text : List ℕ) → Option Input
valued_by kind text =
    if bytes_eq kind (codes "S") then option_map LineIn (octets_in_hex text)
    else if bytes_eq kind (codes "R") then option_map TcpIn (octets_in_hex text)
    else if bytes_eq kind (codes "W") then option_map WallIs (number_in text)
    else None

abbrev pub action_by : (kind text : List ℕ) → Option Output
action_by kind text =
    if bytes_eq kind (codes "S") then option_map LineOut (octets_in_hex text)
    else if bytes_eq kind (codes "T") then option_map TcpOut (octets_in_hex text)
    else if bytes_eq kind (codes "X") then
    option_map Closed (option_and_then cause_numbered (number_in text))
    else None

abbrev pub gap_by : (kind station session : List ℕ) → Option Output
gap_by kind station session =
    if bytes_eq kind (codes "G") then gap_at (number_in station) (number_in session) else None

abbrev pub came_at : Option ℕ → Option Input → Option LogEntry
came_at None event = None
came_at (Some now) None = None
came_at (Some now) (Some event) = Some (Came now event)

abbrev pub went_at : Option ℕ → Option Output → Option LogEntry
went_at None action = None
went_at (Some now) None = None
went_at (Some now) (Some action) = Some (Went now action)

-- what the fields of a line log: an action has the mark `>` behind its moment
abbrev pub entry_from : List (List ℕ) → Option LogEntry
entry_from (moment ∷ kind ∷ []) = came_at (number_in moment) (bare_by kind)
entry_from (moment ∷ kind ∷ text ∷ []) = came_at (number_in moment) (valued_by kind text)
entry_from (moment ∷ mark ∷ kind ∷ text ∷ []) =
    if bytes_eq mark (codes ">") then went_at (number_in moment) (action_by kind text) else None
entry_from (moment ∷ mark ∷ kind ∷ station ∷ session ∷ []) =
    if bytes_eq mark (codes ">") then went_at (number_in moment) (gap_by kind station session)
    else None
entry_from fields = None

-- the entry that a line gives, if it gives one
abbrev pub entry_in : List ℕ → Option LogEntry
entry_in line = entry_from (slice_split (λ b. b == 32) line)

-- an entry before those that follow, if all of them are given
abbrev pub before_those : Option LogEntry → Option (List LogEntry) → Option (List LogEntry)
before_those None entries = None
before_those (Some entry) None = None
before_those (Some entry) (Some entries) = Some (entry ∷ entries)

-- behind the last line feed nothing follows
abbrev pub ended_by : List ℕ → Option (List LogEntry)
ended_by [] = Some []
ended_by (octet ∷ octets) = None

abbrev pub entries_of_lines : (line : List ℕ) → List (List ℕ) → Option (List LogEntry)
entries_of_lines line [] = ended_by line
entries_of_lines line (next ∷ lines) = before_those (entry_in line) (entries_of_lines next lines)

abbrev pub entries_of_parts : List (List ℕ) → Option (List LogEntry)
entries_of_parts [] = None
entries_of_parts (line ∷ lines) = entries_of_lines line lines

-- what a text gives, the oldest first; nothing if a line gives no entry, or lacks its line feed
abbrev pub entries_in : List ℕ → Option (List LogEntry)
entries_in text = entries_of_parts (slice_split (λ b. b == 10) text)

-- the actions of a log with their moments, the oldest first
abbrev pub actions_of : Log → List LogEntry
actions_of [] = []
actions_of (Came now event ∷ log) = actions_of log
actions_of (Went now action ∷ log) = actions_of log ++ Went now action ∷ []
