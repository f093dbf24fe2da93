-- Turns: the stations are served in the order of the settings, each for a turn (this gateway's own
-- profile; the requests that a turn has are those of IEC 60870-5-2's unbalanced transmission
-- procedures).
use Rattle.std.specs.Prelude.{◌≡◌, ℕ, zero, suc, ◌&&◌, ◌||◌, nat_lt, Bool, true, false, not, List}
use Rattle.std.specs.Prelude.{length, slice_index_or, is_some, Option, Some, None, if◌then◌else◌}
use Rattle.link.specs.Answers.{Service, Class1, Class2, Command, Asked, Status, Reset, Counted}
use Rattle.link.specs.Procedure.{Silence, Link, Down, Available, Next, Held, is_held}
pub use Rattle.link.specs.declared.turn.StationState.{StationState}
pub use Rattle.link.specs.declared.session.SessionState.{SessionState}
pub use Rattle.link.specs.declared.turn.Phase.{Phase}
pub use Rattle.link.specs.declared.turn.Phase.TheVariants.{Starting, Commanding, Polling}
pub use Rattle.link.specs.declared.turn.Phase.TheVariants.{Class1Polling, Over}
pub use Rattle.link.specs.declared.turn.Wanted.{Wanted}
pub use Rattle.link.specs.declared.turn.Chosen.{Chosen}
pub use Rattle.link.specs.declared.turn.Wish.{Wish}
pub use Rattle.link.specs.declared.turn.Wish.TheVariants.{AskStatus, AskReset, PollClass1}
pub use Rattle.link.specs.declared.turn.Wish.TheVariants.{PollClass2, SendCommand, SendHeld, Probe}
pub use Rattle.link.specs.declared.turn.Pick.{Pick}

-- before the first answered reset
abbrev pub no_session : SessionState
no_session = record { number = 0; has_gap = false }

-- a station that isn't there
abbrev pub no_station : StationState
no_station = record {
  address = 0;
  link = Down;
  acd = false;
  dfc = false;
  session = no_session;
  unsure = false;
}

abbrev pub station_at : List StationState → ℕ → StationState
station_at stations i = slice_index_or stations i no_station

abbrev pub wants : Asked → Phase → Option Wanted
wants request following = Some (record { request = request; following = following })

abbrev pub is_poll : Service → Bool
is_poll Class1 = true
is_poll Class2 = true
is_poll (Command asdu) = false

-- Polls: class 1 while ACD is set, at most burst of them. If ACD was clear, one of class 2 comes
-- first.
abbrev pub wanted_poll : (burst : ℕ) → (fcb : Bool) → (acd : Bool) → Phase → Option Wanted
wanted_poll burst fcb acd Polling =
    if acd then wants (Counted fcb Class1) (Class1Polling 1)
    else wants (Counted fcb Class2) (Class1Polling 0)
wanted_poll burst fcb acd (Class1Polling sent) =
    if acd && nat_lt sent burst then wants (Counted fcb Class1) (Class1Polling (suc sent)) else None
wanted_poll burst fcb acd phase = None

-- polls from this phase on, if they may be sent
abbrev pub polls_from : (burst : ℕ) → (may_poll : Bool) → (fcb : Bool) → StationState → Phase →
    Option Wanted
polls_from burst may_poll fcb s phase = if may_poll then wanted_poll burst fcb s.acd phase else None

-- a command, and then polls
abbrev pub wanted_command : (fcb : Bool) → (asdu : List ℕ) → Option Wanted
wanted_command fcb asdu = wants (Counted fcb (Command asdu)) Polling

-- the command that waits, if the station takes one, or else polls
abbrev pub commands_from : (burst : ℕ) → (may_poll : Bool) → (fcb : Bool) → StationState →
    Option (List ℕ) → Option Wanted
commands_from burst may_poll fcb s (Some asdu) =
    if s.dfc then polls_from burst may_poll fcb s Polling
    else wanted_command fcb asdu
commands_from burst may_poll fcb s None = polls_from burst may_poll fcb s Polling

-- what an up station's turn goes on with, if this command waits for it
abbrev pub next_of : (burst : ℕ) → (may_poll : Bool) → (fcb : Bool) → StationState →
    Option (List ℕ) → Phase → Option Wanted
next_of burst may_poll fcb s command Starting = commands_from burst may_poll fcb s command
next_of burst may_poll fcb s command Commanding = commands_from burst may_poll fcb s command
next_of burst may_poll fcb s command Polling = polls_from burst may_poll fcb s Polling
next_of burst may_poll fcb s command (Class1Polling sent) =
    polls_from burst may_poll fcb s (Class1Polling sent)
next_of burst may_poll fcb s command Over = None

-- Behind a restart the station has answered no service, and it is silent to the one that it holds:
-- whether it is there has to be asked.
abbrev pub is_doubted : StationState → Silence → Bool
is_doubted s silence = s.unsure && silence.spent

-- What the station's turn has next, by its link. First it is started. Then a held service is sent
-- once, or again at once if its repeats aren't used up. Then come a command and polls. A turn of a
-- station that is in doubt has its status alone.
abbrev pub wanted_by : (burst : ℕ) → (may_poll again : Bool) → StationState → Option (List ℕ) →
    Link → Phase → Option Wanted
wanted_by burst may_poll again s command Down Starting = wants Status Starting
wanted_by burst may_poll again s command Available Starting = wants Reset Over
wanted_by burst may_poll again s command (Next fcb) phase = next_of burst may_poll fcb s command
    phase
wanted_by burst may_poll again s command (Held fcb service silence) Starting =
    if is_doubted s silence then wants Status Over
    else if may_poll || not (is_poll service) then wants (Counted fcb service) Commanding
    else None
wanted_by burst may_poll true s command (Held fcb service silence) phase =
    wants (Counted fcb service) phase
wanted_by burst may_poll again s command link phase = None

abbrev pub wanted : (burst : ℕ) → (may_poll again : Bool) → StationState → Option (List ℕ) →
    Phase → Option Wanted
wanted burst may_poll again s command phase = wanted_by burst may_poll again s command s.link phase

-- the command that waits for each station, by its index: the oldest, if there is one
abbrev pub CommandsWaiting : Type 0
CommandsWaiting = ℕ → Option (List ℕ)

-- the next place, round a count of places
abbrev pub place_after : (count place : ℕ) → ℕ
place_after count place = if nat_lt (suc place) count then suc place else 0

abbrev pub chosen_or : Option Wanted → (place : ℕ) → Option Chosen → Option Chosen
chosen_or (Some w) place other = Some (record { station = place; wanted = w })
chosen_or None place other = other

-- the first of so many stations after this one that has a request to begin a turn with
abbrev pub first_after : (burst : ℕ) → (may_poll : Bool) → List StationState → CommandsWaiting →
    (many place : ℕ) → Option Chosen
first_after burst may_poll stations waiting zero place = None
first_after burst may_poll stations waiting (suc many) place =
    chosen_or (wanted burst may_poll false
    (station_at stations (place_after (length stations) place))
    (waiting (place_after (length stations) place)) Starting)
    (place_after (length stations) place)
    (first_after burst may_poll stations waiting many (place_after (length stations) place))

-- the request for a command that waits, and for a held service
abbrev pub command_request : (fcb : Bool) → Option (List ℕ) → Asked
command_request fcb (Some asdu) = Counted fcb (Command asdu)
command_request fcb None = Status

abbrev pub held_request : Link → Asked
held_request (Held fcb service silence) = Counted fcb service
held_request link = Status

-- a wish for a command is that of a station for which one waits; one for a held service is that of
-- a station that has one
abbrev pub IsPossible : StationState → Option (List ℕ) → Wish → Type 0
IsPossible s command (SendCommand fcb) = is_some command ≡ true
IsPossible s command (SendHeld phase) = is_held s.link ≡ true
IsPossible s command wish = Unit {0}

-- what a wish of a station stands for
abbrev pub wished : StationState → Option (List ℕ) → Wish → Wanted
wished s command AskStatus = record { request = Status; following = Starting }
wished s command Probe = record { request = Status; following = Over }
wished s command AskReset = record { request = Reset; following = Over }
wished s command (PollClass1 fcb sent) = record {
  request = Counted fcb Class1;
  following = Class1Polling sent;
}
wished s command (PollClass2 fcb) = record {
  request = Counted fcb Class2;
  following = Class1Polling 0;
}
wished s command (SendCommand fcb) = record {
  request = command_request fcb command;
  following = Polling;
}
wished s command (SendHeld phase) = record { request = held_request s.link; following = phase }

abbrev pub picked : List StationState → CommandsWaiting → Pick → Chosen
picked stations waiting pick = record {
  station = pick.station;
  wanted =
      wished (station_at stations pick.station) (waiting pick.station) pick.wish;
}
