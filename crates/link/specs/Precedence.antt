-- Commands go before polls (this gateway's own profile; ACD, DFC and the services are those of
-- IEC 60870-5-2): while a command waits for a station that takes user data, no new poll goes to the
-- station but those of a visit that had begun.
use Rattle.std.specs.Prelude.{◌≡◌, ℕ, suc, ◌+◌, ◌-◌, ◌<◌, ◌==◌, ◌&&◌, Bool, true, false, not, List}
use Rattle.std.specs.Prelude.{[]}
use Rattle.std.specs.Prelude.{◌∷◌, Option, Some, None, is_some, if◌then◌else◌}
use Rattle.link.specs.Exchanges.{Sending}
use Rattle.link.specs.Procedure.{is_held}
use Rattle.link.specs.Turns.{StationState, CommandsWaiting, station_at}
use Rattle.link.specs.Primary.{Outstanding, Primary, sending, is_command}
use Rattle.link.specs.Leave.{is_poll_request}
use Rattle.link.specs.Runs.{Call, Next, called}

-- A command waits for the station, and DFC was clear in its latest answer.
abbrev pub command_waits : Option (List ℕ) → StationState → Bool
command_waits command s = is_some command && not s.dfc

abbrev pub command_waits_at : Primary → CommandsWaiting → (station : ℕ) → Bool
command_waits_at p waiting station =
    command_waits (waiting station) (station_at p.stations station)

-- The request is a poll, and no repeat.
abbrev pub is_new_poll : Primary → Sending → Bool
is_new_poll p s = is_poll_request s.request && not (is_held (station_at p.stations s.station).link)

abbrev pub is_new_poll_of : Primary → (station : ℕ) → Option Sending → Bool
is_new_poll_of p station None = false
is_new_poll_of p station (Some s) = (s.station == station) && is_new_poll p s

-- A new poll goes to the station while a command waits for it.
abbrev pub passes_command : Primary → (station : ℕ) → Call → Bool
passes_command p station (Next now may_poll waiting) =
    command_waits_at p waiting station && is_new_poll_of p station (sending p may_poll waiting)
passes_command p station call = false

-- The request is a command, and no repeat.
abbrev pub is_new_command : Primary → Sending → Bool
is_new_command p s =
    is_command s.request && not (is_held (station_at p.stations s.station).link)

-- How many new polls the station's visit may still have: all that a visit has behind a new command,
-- since what waits then is the next one, and one fewer after each.
abbrev pub left_behind : Primary → (left : ℕ) → Sending → ℕ
left_behind p left s =
    if is_new_poll p s then left - 1
    else if is_new_command p s then suc p.settings.burst
    else left

-- It has none once a request went to another station, or nothing went out.
abbrev pub left_after : Primary → (station left : ℕ) → Option Sending → ℕ
left_after p station left None = 0
left_after p station left (Some s) = if s.station == station then left_behind p left s else 0

abbrev pub left_by_request : Primary → (station left : ℕ) → Option Outstanding →
    (may_poll : Bool) → CommandsWaiting → ℕ
left_by_request p station left (Some o) may_poll waiting = left
left_by_request p station left None may_poll waiting =
    left_after p station left (sending p may_poll waiting)

-- If no command waits, it is all that a visit has: a poll of class 2, and `burst` of class 1.
abbrev pub polls_left : Primary → (station left : ℕ) → Call → ℕ
polls_left p station left (Next now may_poll waiting) =
    if command_waits_at p waiting station
    then left_by_request p station left p.outstanding may_poll waiting
    else suc p.settings.burst
polls_left p station left call = left

-- With so many polls left before the first call, a command that waits is passed by no others.
abbrev pub CommandsGoFirst : Primary → (station left : ℕ) → List Call → Type 0
CommandsGoFirst p station left [] = Unit {0}
CommandsGoFirst p station left (call ∷ calls) =
    (passes_command p station call ≡ true → 0 < left)
    × CommandsGoFirst (called p call) station (polls_left p station left call) calls

-- ---- The same, counted
