-- Which settings differ from those under which a state was kept, a key a line: its value then, and
-- now (texts of this gateway's own profile).
use Rattle.std.specs.Prelude.{ℕ, ◌==◌, ◌&&◌, Bool, true, false, List, [], ◌∷◌, ◌++◌, codes}
use Rattle.std.specs.Prelude.{Option, Some, None, if◌then◌else◌}
use Rattle.std.specs.Fmt.{decimal}
use Rattle.asdu.specs.Sizes.{ca_len, cause_len, ioa_len}
use Rattle.asdu.specs.declared.sizes.CaSize.{CaSize}
use Rattle.asdu.specs.declared.sizes.CauseSize.{CauseSize}
use Rattle.asdu.specs.declared.sizes.IoaSize.{IoaSize}
use Rattle.ft12.specs.declared.frame.LinkSize.{LinkSize}
use Rattle.ft12.specs.declared.frame.LinkSize.TheVariants as links
use Rattle.gateway.specs.Config.{Settings}
use Rattle.gateway.specs.declared.settings.LineSettings.{LineSettings}
use Rattle.gateway.specs.declared.settings.Silence.{Silence}
use Rattle.gateway.specs.declared.settings.Silence.TheVariants.{Hold, Reset}
use Rattle.gateway.specs.declared.settings.StationSettings.{StationSettings}
use Rattle.gateway.specs.declared.settings.TcpSettings.{TcpSettings}

-- behind a key
abbrev pub values : (kept now : ℕ) → List ℕ
values kept now = codes ": kept " ++ decimal kept ++ codes ", now " ++ decimal now ++ 10 ∷ []

abbrev pub number_line : (key : List ℕ) → (kept now : ℕ) → List ℕ
number_line key kept now = if kept == now then [] else key ++ values kept now

abbrev pub flag_values : (kept now : Bool) → List ℕ
flag_values true true = []
flag_values false false = []
flag_values true false = codes ": kept true, now false" ++ 10 ∷ []
flag_values false true = codes ": kept false, now true" ++ 10 ∷ []

abbrev pub link_octets : LinkSize → ℕ
link_octets links.One = 1
link_octets links.Two = 2

abbrev pub silence_line : (kept now : Silence) → List ℕ
silence_line Hold Hold = []
silence_line Reset Reset = []
silence_line Hold Reset = codes "line.silence: kept hold, now reset" ++ 10 ∷ []
silence_line Reset Hold = codes "line.silence: kept reset, now hold" ++ 10 ∷ []

abbrev pub link_line : (kept now : LinkSize) → List ℕ
link_line a b = number_line (codes "line.link") (link_octets a) (link_octets b)

abbrev pub cause_line : (kept now : CauseSize) → List ℕ
cause_line a b = number_line (codes "line.cause") (cause_len a) (cause_len b)

abbrev pub ca_size_line : (kept now : CaSize) → List ℕ
ca_size_line a b = number_line (codes "line.ca") (ca_len a) (ca_len b)

abbrev pub ioa_line : (kept now : IoaSize) → List ℕ
ioa_line a b = number_line (codes "line.ioa") (ioa_len a) (ioa_len b)

abbrev pub size_lines : (kept now : LineSettings) → List ℕ
size_lines a b =
    link_line a.link b.link ++ cause_line a.sizes.cause b.sizes.cause
    ++ ca_size_line a.sizes.ca b.sizes.ca ++ ioa_line a.sizes.ioa b.sizes.ioa

abbrev pub answer_lines : (kept now : LineSettings) → List ℕ
answer_lines a b =
    number_line (codes "line.answer_ms") a.answer_ms b.answer_ms
    ++ number_line (codes "line.retries") a.retries b.retries

abbrev pub queue_lines : (kept now : LineSettings) → List ℕ
queue_lines a b =
    number_line (codes "line.burst") a.burst b.burst
    ++ number_line (codes "line.queue") a.queue b.queue

abbrev pub polling_lines : (kept now : LineSettings) → List ℕ
polling_lines a b = answer_lines a b ++ silence_line a.silence b.silence ++ queue_lines a b

abbrev pub connection_lines : (kept now : TcpSettings) → List ℕ
connection_lines a b =
    number_line (codes "tcp.k") a.k b.k
    ++ number_line (codes "tcp.w") a.w b.w
    ++ number_line (codes "tcp.t1_ms") a.t1_ms b.t1_ms
    ++ number_line (codes "tcp.t2_ms") a.t2_ms b.t2_ms
    ++ number_line (codes "tcp.t3_ms") a.t3_ms b.t3_ms
    ++ number_line (codes "tcp.select_ms") a.select_ms b.select_ms
    ++ number_line (codes "tcp.max_age_ms") a.max_age_ms b.max_age_ms

-- these stations have the same link addresses, in the same order
abbrev pub are_same_addresses : (kept now : List StationSettings) → Bool
are_same_addresses [] [] = true
are_same_addresses [] (t ∷ now) = false
are_same_addresses (s ∷ kept) [] = false
are_same_addresses (s ∷ kept) (t ∷ now) = s.address == t.address && are_same_addresses kept now

abbrev pub addresses : List StationSettings → List ℕ
addresses [] = []
addresses (s ∷ stations) = codes " " ++ decimal s.address ++ addresses stations

-- the link addresses in the order of turns, if they differ
abbrev pub order_line : (is_same : Bool) → (kept now : List StationSettings) → List ℕ
order_line true kept now = []
order_line false kept now =
    codes "station.address: kept" ++ addresses kept ++ codes ", now" ++ addresses now ++ 10 ∷ []

-- the station with this link address
abbrev pub station_at : (address : ℕ) → List StationSettings → Option StationSettings
station_at address [] = None
station_at address (s ∷ stations) =
    if s.address == address then Some s else station_at address stations

abbrev pub ca_line : (address kept now : ℕ) → List ℕ
ca_line address kept now = if kept == now then []
    else codes "station " ++ decimal address ++ codes ", ca" ++ values kept now

abbrev pub select_line : (address : ℕ) → (kept now : Bool) → List ℕ
select_line address true true = []
select_line address false false = []
select_line address true false =
    codes "station " ++ decimal address ++ codes ", select" ++ flag_values true false
select_line address false true =
    codes "station " ++ decimal address ++ codes ", select" ++ flag_values false true

-- a station, and the one of now with its link address, if there is one
abbrev pub lines_of : StationSettings → Option StationSettings → List ℕ
lines_of s None = []
lines_of s (Some t) = ca_line s.address s.ca t.ca ++ select_line s.address s.select t.select

-- each station of those that were kept
abbrev pub station_lines : (now kept : List StationSettings) → List ℕ
station_lines now [] = []
station_lines now (s ∷ kept) = lines_of s (station_at s.address now) ++ station_lines now kept

abbrev pub key_lines : (kept now : LineSettings) → (kept now : TcpSettings) → List ℕ
key_lines a b t u = size_lines a b ++ polling_lines a b ++ connection_lines t u

abbrev pub stations_part : (kept now : List StationSettings) → List ℕ
stations_part kept now =
    order_line (are_same_addresses kept now) kept now ++ station_lines now kept

-- each key whose value differs
abbrev pub changed_lines : (kept now : Settings) → List ℕ
changed_lines kept now = key_lines kept.line now.line kept.tcp now.tcp
    ++ stations_part kept.stations now.stations
