-- What the worked examples of the log speak of: lines, and those of a list of requests.
use Rattle.std.specs.Prelude.{ℕ, List, [], ◌∷◌, ◌++◌, option_to_list, Some}
use Rattle.ft12.specs.declared.frame.LinkSize.{LinkSize}
use Rattle.ft12.specs.declared.frame.LinkSize.TheVariants.{One}
use Rattle.asdu.specs.declared.sizes.CaSize.TheVariants as ca
use Rattle.asdu.specs.declared.sizes.CauseSize.TheVariants as cause
use Rattle.asdu.specs.declared.sizes.IoaSize.TheVariants as ioa
use Rattle.gateway.specs.Log.{LineOut}
use Rattle.gateway.specs.declared.counts.Counts.{Counts}
use Rattle.live.specs.declared.ends.Presence.{Presence}
use Rattle.runlog.specs.Ends.{line_seen}
use Rattle.runlog.specs.Exchange.{RequestWatch, asked as request_sent, new_exchange, received}
use Rattle.runlog.specs.Gathering.{GatheringCall, Add, Look, nothing, added, line_of}
use Rattle.runlog.specs.Stations.{asked, asking_of, new_station, station_asked, standing_of}
use Rattle.runlog.specs.Traffic.{new_traffic, suffered, traffic_line}
use Rattle.runlog.specs.Watching.{Watching, put}
use Rattle.runlog.specs.declared.exchange.AwaitedAnswer.TheVariants.{Poll}
use Rattle.runlog.specs.declared.fate.Mishap.{Mishap}
use Rattle.runlog.specs.declared.gathered.Gathered.{Gathered}
use Rattle.runlog.specs.declared.order.OrderKind.{OrderKind}
use Rattle.runlog.specs.declared.order.Value.{Value}
use Rattle.runlog.specs.declared.order.Order.{Order}
use Rattle.runlog.specs.declared.stations.StationStanding.{StationStanding}
use Rattle.runlog.specs.declared.ends.LineWatch.{LineWatch}
use Rattle.runlog.specs.declared.note.LogLine.{LogLine}
use Rattle.runlog.specs.declared.spoiling.Spoiling.{Spoiling}
use Rattle.runlog.specs.declared.spoiling.Spoiling.TheVariants.{Frame as FrameOf}
use Rattle.runlog.specs.declared.stations.StationWatch.{StationWatch}
use Rattle.runlog.specs.declared.traffic.Traffic.{Traffic}

-- the lines of requests, each with its moment, the oldest first
abbrev pub lines_of_requests : LinkSize → List (ℕ × List ℕ) → List StationWatch → List LogLine
lines_of_requests size [] ws = []
lines_of_requests size (x ∷ xs) ws =
    option_to_list (asked size x.1 x.0 ws).1 ++ lines_of_requests size xs (asked size x.1 x.0 ws).0

-- and of looks at the line, each with its moment
abbrev pub lines_of_looks : List (ℕ × Presence) → LineWatch → List LogLine
lines_of_looks [] w = []
lines_of_looks (x ∷ xs) w =
    option_to_list (line_seen x.1 x.0 w).1 ++ lines_of_looks xs (line_seen x.1 x.0 w).0

abbrev pub order : (kind : ℕ) → OrderKind → (ca object : ℕ) → Value → Order
order kind act ca object value =
    record { kind = kind; act = act; ca = ca; object = object; value = value }

-- the lines of what is gathered
abbrev pub lines_after : Gathered → List GatheringCall → List LogLine
lines_after g [] = []
lines_after g (Add what at ∷ calls) = lines_after (added what at g) calls
lines_after g (Look now ∷ calls) =
    option_to_list (line_of now g).1 ++ lines_after (line_of now g).0 calls

abbrev pub lines_of_calls : List GatheringCall → List LogLine
lines_of_calls calls = lines_after nothing calls

-- how a station stands after each request to it, and since when
abbrev pub standings_of : LinkSize → List (ℕ × List ℕ) → StationWatch → List (StationStanding × ℕ)
standings_of size [] w = []
standings_of size (x ∷ xs) w =
    let v = (station_asked (asking_of x.1) x.0 w).0 in
    (standing_of v, v.since) ∷ standings_of size xs v

-- the lines of what befalls a station, each with its moment, at which a line is sought
abbrev pub lines_of_traffic : List (ℕ × Mishap) → Traffic → List LogLine
lines_of_traffic [] t = []
lines_of_traffic (x ∷ xs) t =
    let logged = traffic_line x.0 (suffered x.1 x.0 t) in
    option_to_list logged.1 ++ lines_of_traffic xs logged.0

abbrev pub lines_of_mishaps : List (ℕ × Mishap) → (address : ℕ) → List LogLine
lines_of_mishaps xs address = lines_of_traffic xs (new_traffic address)

-- two stations with which nothing has passed yet
abbrev pub two_stations : List Traffic
two_stations = new_traffic 7 ∷ new_traffic 8 ∷ []

-- the station at this place was asked last before the latest event
abbrev pub asked_before : (place : ℕ) → RequestWatch
asked_before place = record (new_exchange 150) { before = Some place; spoiling = FrameOf 9 }

-- so many answers to commands were dropped, and so many exchanges were spoilt
abbrev pub counting : (mirrors spoilt : ℕ) → Counts
counting mirrors spoilt =
    record { skipped = 0; mirrors = mirrors; lost = 0; spoilt = spoilt }

-- two stations whose sizes are one octet each, but for object addresses of two, before any request
abbrev pub two_watched : Watching → Watching
two_watched w = record w {
  link = One;
  sizes = record { cause = cause.One; ca = ca.One; ioa = ioa.Two };
  stations = new_station 2 7 ∷ new_station 2 8 ∷ [];
  traffic = two_stations;
  exchange = new_exchange 150;
  trail = [];
  gone = [];
}

-- C_SC_NA_1, on, to object 100 of station 8; the same as its positive confirmation; a poll of it
-- (class 2); and that its link is busy (FT1.2)
abbrev pub command_to_8 : List ℕ
command_to_8 =
    0x68 ∷ 0x09 ∷ 0x09 ∷ 0x68 ∷ 0x73 ∷ 0x08 ∷ 0x2D ∷ 0x01 ∷ 0x06 ∷ 0x01 ∷ 0x64 ∷ 0x00 ∷ 0x01 ∷ 0x15
    ∷ 0x16 ∷ []

abbrev pub poll_of_8 : List ℕ
poll_of_8 = 0x10 ∷ 0x5B ∷ 0x08 ∷ 0x63 ∷ 0x16 ∷ []

-- a poll of station 7, and that it has no data
abbrev pub poll_of_7 : List ℕ
poll_of_7 = 0x10 ∷ 0x5B ∷ 0x07 ∷ 0x62 ∷ 0x16 ∷ []

abbrev pub none_of_7 : List ℕ
none_of_7 = 0x10 ∷ 0x09 ∷ 0x07 ∷ 0x10 ∷ 0x16 ∷ []

-- station 7 is polled at 0, and station 8 at this moment
abbrev pub polled_at : (now : ℕ) → RequestWatch → RequestWatch
polled_at now e =
    request_sent One poll_of_8 (Some 1) Poll now (request_sent One poll_of_7 (Some 0) Poll 0 e)

-- what stands in the place of an answer of station 8, by octets that come at this moment, if it was
-- polled at 100
abbrev pub spoiling_behind : (now : ℕ) → (octets : List ℕ) → Spoiling
spoiling_behind now octets =
    (received One octets now (polled_at 100 (new_exchange 150))).spoiling

-- the command has gone out to station 8
abbrev pub commanded : Watching → Watching
commanded w = (put 5 (LineOut command_to_8) (two_watched w)).0

-- and then the station is polled
abbrev pub polled : Watching → Watching
polled w = (put 6 (LineOut poll_of_8) (commanded w)).0
