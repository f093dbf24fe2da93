-- What a restart makes of a gateway (this gateway's own profile).
use Rattle.std.specs.Prelude.{ℕ, zero, suc, ◌==◌, Bool, List, length, map, slice_get, position}
use Rattle.std.specs.Prelude.{Option, None, option_and_then, if◌then◌else◌, get_or, slice_set}
use Rattle.std.specs.Prelude.{is_some}
use Rattle.link.specs.Carried as line
use Rattle.link.specs.Carried.{awaits_command}
use Rattle.link.specs.declared.seat.ResumedStation.{ResumedStation}
use Rattle.link.specs.declared.turn.StationState.{StationState}
use Rattle.link.specs.Primary.{Primary, station_down}
use Rattle.link.specs.Turns.{station_at}
use Rattle.command.specs.Carried as tasks
use Rattle.events.specs.Carried as queue
use Rattle.gateway.specs.declared.settings.StationSettings.{StationSettings}
use Rattle.gateway.specs.declared.starting_links.LinkStart.{LinkStart}
use Rattle.gateway.specs.declared.starting_links.LinkStart.TheVariants as links
use Rattle.gateway.specs.Config.{Settings}
use Rattle.gateway.specs.Setups.{link_of, session_of, info_of}
use Rattle.gateway.specs.Starts.{have_same_sizes, link_start}
use Rattle.gateway.specs.Serial.{Serial, given_up}
use Rattle.gateway.specs.Centre.{Centre, first_centre}
use Rattle.gateway.specs.State.{State, with_serial, disconnected}

-- ---- Commands without an answer

-- The link to a station is given up, and the command that stood on its line is lost.
abbrev pub link_given_up : (station : ℕ) → Serial → Serial
link_given_up station s = given_up station (record s { line = line.given_up station s.line })

-- a station whose latest service is a command without an answer is given up
abbrev pub command_given_up : (station : ℕ) → Serial → Serial
command_given_up station s = if awaits_command s.line station then link_given_up station s else s

-- the same for so many stations, from the first on
abbrev pub commands_given_up_upto : (count : ℕ) → Serial → Serial
commands_given_up_upto zero s = s
commands_given_up_upto (suc k) s = command_given_up k (commands_given_up_upto k s)

-- Of no station is it known whether it was restarted, too.
abbrev pub doubted_serial : Serial → Serial
doubted_serial s = record s { line = line.doubted s.line }

-- for all stations, of which each may have been restarted
abbrev pub without_commands : Serial → Serial
without_commands s = doubted_serial (commands_given_up_upto (length s.line.stations) s)

-- Each command without an answer is given up, and the connection is over.
abbrev pub restarted : State → State
restarted s = disconnected (with_serial (without_commands s.serial) s)

-- ---- Other settings

-- the place of the station with this link address, in the order of the turns
abbrev pub place_of : (address : ℕ) → List StationSettings → Option ℕ
place_of address stations = position (λ (s : StationSettings). s.address == address) stations

abbrev pub station_with : (address : ℕ) → List StationSettings → Option StationSettings
station_with address stations =
    option_and_then (λ (place : ℕ). slice_get stations place) (place_of address stations)

-- What becomes of the link to the station that had this place: it is known by its link address.
abbrev pub start_of : (goes_on : Bool) → (before now : Settings) → (place : ℕ) → LinkStart
start_of goes_on before now place =
    let station : Option StationSettings = slice_get before.stations place in
    link_start goes_on (have_same_sizes before.line now.line) station
    (option_and_then (λ (s : StationSettings). station_with s.address now.stations) station)

abbrev pub link_started : LinkStart → (station : ℕ) → Serial → Serial
link_started links.Down station s = s
link_started links.GoesOn station s = s
link_started links.Dropped station s = link_given_up station s
link_started links.Reset station s = link_given_up station s
link_started links.ResetAfterGap station s =
    let t : Serial = link_given_up station s in
    record t { line = line.gap_marked station t.line }

-- so many links, from the first on
abbrev pub links_started_upto : (goes_on : Bool) → (before now : Settings) → (count : ℕ) →
    Serial → Serial
links_started_upto goes_on before now zero s = s
links_started_upto goes_on before now (suc k) s =
    link_started (start_of goes_on before now k) k (links_started_upto goes_on before now k s)

-- An exchange that is outstanding is broken off, and each link goes on or is given up.
abbrev pub links_started : (goes_on : Bool) → (before now : Settings) → Serial → Serial
links_started goes_on before now s =
    links_started_upto goes_on before now (length s.line.stations)
    (record s { line = line.released s.line })

-- of each station the place that it had before, if it had one
abbrev pub seat_of : List StationSettings → StationSettings → ResumedStation
seat_of before s = record { address = s.address; before = place_of s.address before }

abbrev pub seats : (before now : Settings) → List ResumedStation
seats before now = map (seat_of before.stations) now.stations

abbrev pub places : List ResumedStation → List (Option ℕ)
places seats = map (λ (s : ResumedStation). s.before) seats

-- Stations without a place before. Each may have been a station earlier, and of what it gave then a
-- report may be lost: its session has a gap, which its first answered reset reports.
abbrev pub seat_at : List ResumedStation → (place : ℕ) → ResumedStation
seat_at seats place = get_or seats place (record { address = 0; before = None })

-- of so many stations, from the first on
abbrev pub stations_marked : List ResumedStation → (count : ℕ) → List StationState
    → List StationState
stations_marked seats zero stations = stations
stations_marked seats (suc k) stations =
    let marked = stations_marked seats k stations in
    if is_some (seat_at seats k).before then marked
    else slice_set marked k (line.with_gap_mark (station_at marked k))

abbrev pub newcomers_marked : List ResumedStation → Primary → Primary
newcomers_marked seats p =
    record p { stations = stations_marked seats (length seats) p.stations }

-- The line's side goes on with other stations: nothing is outstanding or waits, and no connection
-- is left. Counts stay.
abbrev pub serial_carried : (goes_on : Bool) → (before now : Settings) → Serial → Serial
serial_carried goes_on before now s =
    let t : Serial = links_started goes_on before now s in
    record {
      line = newcomers_marked (seats before now)
          (line.reseated (link_of now.line) (seats before now) t.line);
      commands = tasks.carried (map info_of now.stations) now.line.sizes now.tcp.select_ms
          now.tcp.max_age_ms (places (seats before now)) t.commands;
      counts = t.counts;
      silent = None;
      gap = None;
    }

-- Without a connection; each piece that was kept is kept, in its order, and is unsent.
abbrev pub centre_carried : (now : Settings) → Centre → Centre
centre_carried now s =
    record (first_centre (session_of now.tcp) now.line.queue) {
      queue = queue.carried now.line.queue s.queue;
    }

-- The gateway of these settings that goes on with what the one of those has. `goes_on` is false if
-- frame count bits and held services hold no more. No piece is dropped, and none changes its place
-- in the order. The link of a station that goes on keeps its frame count bit. No station is up that
-- wasn't.
abbrev pub carried : (goes_on : Bool) → (before now : Settings) → State → State
carried goes_on before now s = record {
  serial = serial_carried goes_on before now s.serial;
  centre = centre_carried now s.centre;
  sizes = now.line.sizes;
  moment = s.moment;
  wall = s.wall;
}

-- ---- What becomes of a station

-- of one that wasn't there before: its link is down, and a gap is marked
abbrev pub station_new : (address : ℕ) → StationState
station_new address = line.with_gap_mark (station_down address)

-- of one that was there, by the table: its link goes on or is down, and a gap is marked or not
abbrev pub station_started : LinkStart → StationState → StationState
station_started links.Down s = s
station_started links.GoesOn s = s
station_started links.Dropped s = line.station_given_up s
station_started links.Reset s = line.station_given_up s
station_started links.ResetAfterGap s = line.with_gap_mark (line.station_given_up s)
