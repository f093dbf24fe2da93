-- What goes out at once, before any other request (this gateway's own profile; the services, their
-- repeats and ACD are those of IEC 60870-5-2's unbalanced transmission procedures).
use Rattle.std.specs.Prelude.{◌≡◌, ◌&&◌, ◌||◌, not, ℕ, Bool, true, List, [], ◌∷◌, Option, Some}
use Rattle.std.specs.Prelude.{None, if◌then◌else◌}
use Rattle.link.specs.Answers.{Service, Command}
use Rattle.link.specs.Bursts.{is_answered, poll_by, IsSent}
use Rattle.link.specs.Exchanges.{Sending}
use Rattle.link.specs.Procedure.{is_held, has_repeats, is_service}
use Rattle.link.specs.Turns.{StationState, CommandsWaiting, is_poll, station_at}
use Rattle.link.specs.Primary.{Outstanding, Primary, sending}
use Rattle.link.specs.Runs.{Call, Next, called}

-- Nothing goes out while a request is outstanding.
abbrev pub latest_by : Primary → Option Outstanding → (may_poll : Bool) → CommandsWaiting →
    Option Sending → Option Sending
latest_by p (Some o) may_poll waiting latest = latest
latest_by p None may_poll waiting latest = sending p may_poll waiting

-- the latest request, or none if nothing went out when it might have
abbrev pub latest_after : Primary → Call → Option Sending → Option Sending
latest_after p (Next now may_poll waiting) latest =
    latest_by p p.outstanding may_poll waiting latest
latest_after p call latest = latest

-- The latest request is a service that had no answer in time, and repeats are left. Then the next
-- request is that one again: the same service to the same station, with the same frame count bit.
abbrev pub RepeatIsNext : Primary → Option Sending → Call → Type 0
RepeatIsNext p (Some latest) (Next now may_poll waiting) =
    is_service latest.request ≡ true → p.outstanding ≡ None →
    has_repeats p.settings (station_at p.stations latest.station).link ≡ true →
    sending p may_poll waiting ≡ Some latest
RepeatIsNext p latest call = Unit {0}

-- at each of these calls
abbrev pub RepeatsComeAtOnce : Primary → Option Sending → List Call → Type 0
RepeatsComeAtOnce p latest [] = Unit {0}
RepeatsComeAtOnce p latest (call ∷ calls) =
    RepeatIsNext p latest call
    × RepeatsComeAtOnce (called p call) (latest_after p call latest) calls

-- what a turn has first, and behind a held service: the command that waits, if DFC is clear, or
-- else the poll that ACD asks for
abbrev pub first_service : Option (List ℕ) → StationState → Service
first_service None s = poll_by s.acd
first_service (Some asdu) s = if s.dfc then poll_by s.acd else Command asdu

-- The station holds a service that has no repeat left. When it goes out, a turn begins with it.
abbrev pub is_spent : Primary → (station : ℕ) → Bool
is_spent p station =
    is_held (station_at p.stations station).link
    && not (has_repeats p.settings (station_at p.stations station).link)

-- the station whose turn the latest request began, if that was a held service
abbrev pub began_by : Primary → Option Sending → Option ℕ
began_by p None = None
began_by p (Some s) = if is_spent p s.station then Some s.station else None

-- Nothing goes out while a request is outstanding.
abbrev pub began_out : Primary → Option Outstanding → (may_poll : Bool) → CommandsWaiting →
    Option ℕ → Option ℕ
began_out p (Some o) may_poll waiting began = began
began_out p None may_poll waiting began = began_by p (sending p may_poll waiting)

abbrev pub began_after : Primary → Call → Option ℕ → Option ℕ
began_after p (Next now may_poll waiting) began =
    began_out p p.outstanding may_poll waiting began
began_after p call began = began

-- what the turn of this station has first, by what waits there
abbrev pub first_of_turn : Primary → CommandsWaiting → (station : ℕ) → Service
first_of_turn p waiting station = first_service (waiting station) (station_at p.stations station)

-- A poll goes out only if there is leave. A command needs none.
abbrev pub may_go : (may_poll : Bool) → Service → Bool
may_go may_poll service = may_poll || not (is_poll service)

-- The latest request is a held service with which a turn began, it was answered, and the link is
-- up. Then the next request is what the turn has first, if that may go.
abbrev pub TurnIsNext : Primary → Option ℕ → Call → Type 0
TurnIsNext p (Some station) (Next now may_poll waiting) =
    p.outstanding ≡ None → is_answered (station_at p.stations station).link ≡ true →
    may_go may_poll (first_of_turn p waiting station) ≡ true →
    IsSent p may_poll waiting station (first_of_turn p waiting station)
TurnIsNext p began call = Unit {0}

-- at each of these calls
abbrev pub TurnsGoOn : Primary → Option ℕ → List Call → Type 0
TurnsGoOn p began [] = Unit {0}
TurnsGoOn p began (call ∷ calls) =
    TurnIsNext p began call × TurnsGoOn (called p call) (began_after p call began) calls
