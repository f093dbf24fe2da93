-- What a line of a record or of a trace logs (texts of this gateway's own profile): an event as a
-- trace has it, or an action with the mark `>` behind its moment.
use Rattle.std.specs.Prelude.{ℕ, ◌==◌, ◌||◌, Bool, if◌then◌else◌, List, [], ◌∷◌, codes, Option}
use Rattle.std.specs.Prelude.{None, is_some, option_map}
use Rattle.std.specs.List.{slice_split}
use Rattle.std.specs.Option.{option_and_then}
use Rattle.std.specs.Str.{bytes_eq}
use Rattle.gateway.specs.Log.{LogEntry, Output, LineOut, TcpOut, Closed}
use Rattle.traces.specs.Event.{event_from}
use Rattle.traces.specs.Fields.{decimal_of, octets_of}
use Rattle.traces.specs.Printed.{cause_numbered, gap_at, went_at}
use Rattle.traces.specs.Progress.{came}
use Rattle.traces.specs.Trace.{is_skipped}

-- a request to the line (S), an APDU to TCP (T), or a close (X) with the number of its cause
abbrev pub action_by : (kind text : List ℕ) → Option Output
action_by kind text =
    if bytes_eq kind (codes "S") then option_map LineOut (octets_of text)
    else if bytes_eq kind (codes "T") then option_map TcpOut (octets_of text)
    else if bytes_eq kind (codes "X") then
    option_map Closed (option_and_then cause_numbered (decimal_of text))
    else None

-- a gap (G) with the number of the station and that of the session that ended
abbrev pub gap_by : (kind station session : List ℕ) → Option Output
gap_by kind station session =
    if bytes_eq kind (codes "G") then gap_at (decimal_of station) (decimal_of session) else None

-- the action of the fields behind the mark, if they are one
abbrev pub action_from : List (List ℕ) → Option Output
action_from (kind ∷ text ∷ []) = action_by kind text
action_from (kind ∷ station ∷ session ∷ []) = gap_by kind station session
action_from fields = None

-- what the fields of a line log
abbrev pub entry_from : List (List ℕ) → Option LogEntry
entry_from [] = None
entry_from (moment ∷ []) = None
entry_from (moment ∷ second ∷ fields) =
    if bytes_eq second (codes ">") then went_at (decimal_of moment) (action_from fields)
    else option_map came (event_from (moment ∷ second ∷ fields))

-- what a line logs; an empty one and a comment log nothing
abbrev pub entry_logged : List ℕ → Option LogEntry
entry_logged line =
    if is_skipped line then None else entry_from (slice_split (λ b. b == 32) line)

-- a line of a record: an event, an action, empty or a comment
abbrev pub is_line : List ℕ → Bool
is_line line = is_skipped line || is_some (entry_logged line)
