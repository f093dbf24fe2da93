-- What is queued for the control centre, in words (texts of this gateway's own profile).
use Rattle.std.specs.Prelude.{ℕ, ◌+◌, ◌==◌, nat_lt, List, [], ◌∷◌, ◌++◌, codes, length}
use Rattle.std.specs.Prelude.{Option, Some, None, if◌then◌else◌}
use Rattle.std.specs.Fmt.{decimal}
use Rattle.std.specs.List.{flat_map}
use Rattle.asdu.specs.Fields.{ca_at}
use Rattle.asdu.specs.Sizes.{header_len, ioa_len, tcp}
use Rattle.gateway.specs.declared.settings.StationSettings.{StationSettings}
use Rattle.words.specs.Units.{data_words}

-- the link address of the station with this common address
abbrev pub station_of : (ca : ℕ) → List StationSettings → Option ℕ
station_of ca [] = None
station_of ca (s ∷ stations) = if s.ca == ca then Some s.address else station_of ca stations

-- these words name a station, if there is one
abbrev pub of_station : Option ℕ → List ℕ
of_station None = []
of_station (Some address) = codes " of station " ++ decimal address

-- the station whose common address a piece has, which is in the sizes of the connection
abbrev pub station_words : List StationSettings → (piece : List ℕ) → List ℕ
station_words stations piece = if nat_lt (length piece) (header_len tcp + ioa_len tcp.ioa) then []
    else of_station (station_of (ca_at tcp piece) stations)

-- a piece: the station, and the ASDU in the words of `words`
abbrev pub report_line : List StationSettings → (piece : List ℕ) → List ℕ
report_line stations piece =
    codes "queued" ++ station_words stations piece ++ data_words tcp piece ++ 10 ∷ []

-- each piece
abbrev pub report_lines : List StationSettings → (pieces : List (List ℕ)) → List ℕ
report_lines stations pieces = flat_map (report_line stations) pieces
