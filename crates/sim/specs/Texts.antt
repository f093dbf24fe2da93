-- The closing lines of a run (texts of this gateway's own profile): what stands behind the lines of
-- its actions.
use Rattle.std.specs.Prelude.{ℕ, ◌+◌, ◌==◌, nat_lt, Bool, false, if◌then◌else◌, List, [], ◌∷◌, ◌++◌}
use Rattle.std.specs.Prelude.{codes, count_by, length}
use Rattle.std.specs.Fmt.{decimal}
use Rattle.link.specs.Secondary.{Secondary}
use Rattle.sim.specs.declared.directive.Directive.{Directive}
use Rattle.sim.specs.declared.directive.Directive.TheVariants.{Report}
use Rattle.sim.specs.declared.tally.StationTally.{StationTally}

abbrev pub reports_for : (station : ℕ) → Directive → Bool
reports_for station (Report i class octets) = i == station
reports_for station directive = false

-- `station S reports R given G accepted A`: the reports of the script, those that it gave in
-- answers (a repeat not counted), and the commands that it accepted
abbrev pub station_line : (station reports given accepted : ℕ) → List ℕ
station_line station reports given accepted =
    codes "station " ++ decimal station ++ codes " reports " ++ decimal reports ++ codes " given "
    ++ decimal given ++ codes " accepted " ++ decimal accepted ++ 10 ∷ []

-- the line of the station with this index
abbrev pub line_of_station : List Directive → (index : ℕ) → Secondary → List ℕ
line_of_station ds index s =
    station_line (index + 1) (count_by (reports_for index) ds) s.given (length s.accepted)

-- the lines of the stations, from this index on
abbrev pub station_lines : List Directive → (index : ℕ) → List Secondary → List ℕ
station_lines ds index [] = []
station_lines ds index (s ∷ ss) = line_of_station ds index s ++ station_lines ds (index + 1) ss

-- `connection C objects N`
abbrev pub connection_line : (connection objects : ℕ) → List ℕ
connection_line connection objects =
    codes "connection "
    ++ (decimal connection ++ (codes " objects " ++ (decimal objects ++ 10 ∷ [])))

-- the lines of the connections, by what is counted of each, from this number on
abbrev pub connection_lines : (n : ℕ) → (counts : List ℕ) → List ℕ
connection_lines n [] = []
connection_lines n (count ∷ counts) = connection_line n count ++ connection_lines (n + 1) counts

-- `sessions S N gaps M lost L`
abbrev pub session_line : (station sessions gaps lost : ℕ) → List ℕ
session_line station sessions gaps lost =
    codes "sessions " ++ decimal station ++ codes " " ++ decimal sessions ++ codes " gaps "
    ++ decimal gaps ++ codes " lost " ++ decimal lost ++ 10 ∷ []

-- the line of a station with this index and more than one session, else none
abbrev pub line_of_sessions : (index : ℕ) → StationTally → List ℕ
line_of_sessions index t =
    if nat_lt 1 t.sessions then session_line (index + 1) t.sessions t.gaps t.lost else []

-- the lines of the sessions of stations, from this index on
abbrev pub session_lines : (index : ℕ) → List StationTally → List ℕ
session_lines index [] = []
session_lines index (t ∷ ts) = line_of_sessions index t ++ session_lines (index + 1) ts

-- all that stands behind the lines of a run's actions: how the stations and what is counted stand
-- after it
abbrev pub closing_lines : List Directive → List Secondary → (connections : List ℕ)
    → List StationTally
    → List ℕ
closing_lines ds stations connections tallies =
    station_lines ds 0 stations ++ connections ++ session_lines 0 tallies
