-- The lines that a run prints (texts of this gateway's own profile): each action with its moment.
use Rattle.std.specs.Prelude.{ℕ, ◌+◌, List, [], ◌∷◌, ◌++◌, codes}
use Rattle.std.specs.Fmt.{decimal}
use Rattle.hex.specs.Hex.{encode_upper}
use Rattle.gateway.specs.Log.{Log, LogEntry, Output, LineOut, TcpOut, Closed, GapOut, Came, Went}
use Rattle.gateway.specs.Entries.{number_of, logged_of}
use Rattle.gateway.specs.declared.entries.StoredEntry.{StoredEntry}

-- an action with octets, by its letter
abbrev pub octets_line : (now letter : ℕ) → (octets : List ℕ) → List ℕ
octets_line now letter octets =
    decimal now ++ codes " > " ++ letter ∷ codes " " ++ encode_upper octets ++ 10 ∷ []

-- octets to the line (S), an APDU to TCP (T), a close with the number of its cause (X), or a gap
-- (G) with the number of the station, from 1, and that of the session that ended
abbrev pub request_line : (now : ℕ) → (octets : List ℕ) → List ℕ
request_line now octets = decimal now ++ codes " > S " ++ encode_upper octets ++ 10 ∷ []

abbrev pub apdu_line : (now : ℕ) → (octets : List ℕ) → List ℕ
apdu_line now octets = decimal now ++ codes " > T " ++ encode_upper octets ++ 10 ∷ []

abbrev pub close_line : (now number : ℕ) → List ℕ
close_line now number = decimal now ++ codes " > X " ++ decimal number ++ 10 ∷ []

abbrev pub gap_line : (now station session : ℕ) → List ℕ
gap_line now station session =
    decimal now ++ codes " > G " ++ decimal (station + 1) ++ codes " " ++ decimal session ++ 10 ∷ []

abbrev pub line_of : ℕ → Output → List ℕ
line_of now (LineOut octets) = request_line now octets
line_of now (TcpOut octets) = apdu_line now octets
line_of now (Closed cause) = close_line now (number_of cause)
line_of now (GapOut station session) = gap_line now station session

-- the line of an entry of the log; an event has none
abbrev pub entry_line : LogEntry → List ℕ
entry_line (Came now event) = []
entry_line (Went now action) = line_of now action

-- the line of what is stored
abbrev pub stored_line : StoredEntry → List ℕ
stored_line logged = entry_line (logged_of logged)

-- the lines of a log's actions, the oldest first; an event has none
abbrev pub lines_of_actions : Log → List ℕ
lines_of_actions [] = []
lines_of_actions (Came now event ∷ log) = lines_of_actions log
lines_of_actions (Went now action ∷ log) = lines_of_actions log ++ line_of now action
