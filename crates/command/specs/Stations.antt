-- Stations, and which of them a command is for (IEC 60870-5-101, 7.2.4: common addresses).
use Rattle.std.specs.Prelude.{ℕ, ◌+◌, Bool, ◌&&◌, ◌||◌, ◌==◌, if◌then◌else◌, List, [], ◌∷◌}
use Rattle.std.specs.List.{list_any}
use Rattle.command.specs.declared.content.Command.{Command}
use Rattle.command.specs.declared.station.StationInfo.{StationInfo}

-- an interrogation to the global address, which is for each station
abbrev pub is_global : ℕ → ℕ → Bool
is_global code ca = code == 100 && ca == 65535

-- the command is for the station
abbrev pub is_addressed : Command → StationInfo → Bool
is_addressed c station = is_global c.kind c.ca || station.ca == c.ca

abbrev pub has_address : ℕ → StationInfo → Bool
has_address ca station = station.ca == ca

-- a station has this common address
abbrev pub is_known : List StationInfo → ℕ → Bool
is_known stations ca = list_any (has_address ca) stations

-- the station that the command is for executes nothing without a selection
abbrev pub is_guarded_at : Command → StationInfo → Bool
is_guarded_at c station = station.ca == c.ca && station.select

abbrev pub is_guarded : List StationInfo → Command → Bool
is_guarded stations c = list_any (is_guarded_at c) stations

-- the number of the first station with this common address, or how many there are
abbrev pub station_number : ℕ → List StationInfo → ℕ
station_number ca [] = 0
station_number ca (station ∷ stations) =
    if station.ca == ca then 0 else station_number ca stations + 1
