-- What is chosen to be sent is of a station that is there, and may be sent.
use Rattle.std.proofs.Common.{◌≡◌, ℕ, zero, suc, ◌<◌, ◌&&◌, ◌||◌, nat_lt, Bool, true, false, not}
use Rattle.std.proofs.Common.{List, length, Option, Some, None, refl, if◌then◌else◌, arith}
use Rattle.std.proofs.lemmas.Bool.{ltb-true}
use Rattle.link.specs.Answers.{Class1, Counted}
use Rattle.link.specs.Procedure.{Link, Down, Available, Next, Held, MaySend}
use Rattle.link.specs.Turns.{StationState, Phase, Starting, Commanding, Polling, Class1Polling}
use Rattle.link.specs.Turns.{Over, station_at, Wanted, wants, is_poll, wanted_poll, polls_from}
use Rattle.link.specs.Turns.{wanted_command, commands_from, next_of, wanted_by, Chosen, place_after}
use Rattle.link.specs.Turns.{CommandsWaiting, chosen_or, first_after}
use Rattle.link.specs.Primary.{Primary, choice}
use Rattle.link.specs.Holding.{IsFitting}
use Rattle.link.specs.Answers.{Status}

-- What is wanted may be sent.
abbrev pub MayWant : Link → Option Wanted → Type 0
MayWant link None = Unit {0}
MayWant link (Some w) = MaySend link w.request

poll_may : (burst : ℕ) (fcb acd : Bool) (phase : Phase)
    → MayWant (Next fcb) (wanted_poll burst fcb acd phase)
poll_may burst fcb true Polling = refl
poll_may burst fcb false Polling = refl
poll_may burst fcb acd (Class1Polling sent) = go (acd && nat_lt sent burst)
  where
    go : (b : Bool) → MayWant (Next fcb) (if b then wants (Counted fcb Class1)
        (Class1Polling (suc sent)) else None)
    go true = refl
    go false = tt
poll_may burst fcb acd Starting = tt
poll_may burst fcb acd Commanding = tt
poll_may burst fcb acd Over = tt

polls_may : (burst : ℕ) (may_poll fcb : Bool) (s : StationState) (phase : Phase)
    → MayWant (Next fcb) (polls_from burst may_poll fcb s phase)
polls_may burst true fcb s phase = poll_may burst fcb s.acd phase
polls_may burst false fcb s phase = tt

commands_may : (burst : ℕ) (may_poll fcb : Bool) (s : StationState) (command : Option (List ℕ))
    → MayWant (Next fcb) (commands_from burst may_poll fcb s command)
commands_may burst may_poll fcb s None = polls_may burst may_poll fcb s Polling
commands_may burst may_poll fcb s (Some asdu) = go s.dfc
  where
    go : (b : Bool) → MayWant (Next fcb)
        (if b then polls_from burst may_poll fcb s Polling else wanted_command fcb asdu)
    go true = polls_may burst may_poll fcb s Polling
    go false = refl

next_may : (burst : ℕ) (may_poll fcb : Bool) (s : StationState) (command : Option (List ℕ))
    (phase : Phase)
    → MayWant (Next fcb) (next_of burst may_poll fcb s command phase)
next_may burst may_poll fcb s command Starting = commands_may burst may_poll fcb s command
next_may burst may_poll fcb s command Commanding = commands_may burst may_poll fcb s command
next_may burst may_poll fcb s command Polling = polls_may burst may_poll fcb s Polling
next_may burst may_poll fcb s command (Class1Polling sent) =
    polls_may burst may_poll fcb s (Class1Polling sent)
next_may burst may_poll fcb s command Over = tt

pub wanted_may : (burst : ℕ) (may_poll again : Bool) (s : StationState)
    (command : Option (List ℕ)) (link : Link) (phase : Phase)
    → MayWant link (wanted_by burst may_poll again s command link phase)
wanted_may burst may_poll again s command Down Starting = tt
wanted_may burst may_poll again s command Available Starting = tt
wanted_may burst may_poll again s command (Next fcb) phase =
    next_may burst may_poll fcb s command phase
wanted_may burst may_poll again s command (Held fcb service missed) Starting =
    go s.unsure missed.spent refl (may_poll || not (is_poll service))
  where
    go : (unsure spent : Bool) → missed.spent ≡ spent → (b : Bool)
        → MayWant (Held fcb service missed)
        (if unsure && spent then wants Status Over
        else if b then wants (Counted fcb service) Commanding else None)
    go true true e b = e
    go true false e true = (refl, refl)
    go true false e false = tt
    go false spent e true = (refl, refl)
    go false spent e false = tt
wanted_may burst may_poll true s command (Held fcb service missed) Commanding = (refl, refl)
wanted_may burst may_poll true s command (Held fcb service missed) Polling = (refl, refl)
wanted_may burst may_poll true s command (Held fcb service missed) (Class1Polling sent) =
    (refl, refl)
wanted_may burst may_poll true s command (Held fcb service missed) Over = (refl, refl)
wanted_may burst may_poll false s command (Held fcb service missed) Commanding = tt
wanted_may burst may_poll false s command (Held fcb service missed) Polling = tt
wanted_may burst may_poll false s command (Held fcb service missed) (Class1Polling sent) = tt
wanted_may burst may_poll false s command (Held fcb service missed) Over = tt
wanted_may burst may_poll again s command Down Commanding = tt
wanted_may burst may_poll again s command Down Polling = tt
wanted_may burst may_poll again s command Down (Class1Polling sent) = tt
wanted_may burst may_poll again s command Down Over = tt
wanted_may burst may_poll again s command Available Commanding = tt
wanted_may burst may_poll again s command Available Polling = tt
wanted_may burst may_poll again s command Available (Class1Polling sent) = tt
wanted_may burst may_poll again s command Available Over = tt

-- What is chosen is of a station that is there, and may be sent.
pub record MayChoose (stations : List StationState) (c : Chosen) : Type 0 where
  pub within : c.station < length stations
  pub may : MaySend (station_at stations c.station).link c.wanted.request

abbrev pub MayChooseIt : List StationState → Option Chosen → Type 0
MayChooseIt stations None = Unit {0}
MayChooseIt stations (Some c) = MayChoose stations c

or_may : (stations : List StationState) (w : Option Wanted) (place : ℕ) (other : Option Chosen)
    → place < length stations →
    MayWant (station_at stations place).link w → MayChooseIt stations other
    → MayChooseIt stations (chosen_or w place other)
or_may stations None place other within may rest = rest
or_may stations (Some w) place other within may rest = record { within = within; may = may }

pub place_fits : (count place : ℕ) → 0 < count → place_after count place < count
place_fits count place some = go (nat_lt (suc place) count) refl
  where
    go : (b : Bool) → nat_lt (suc place) count ≡ b → (if b then suc place else 0) < count
    go true e = ltb-true (suc place) count e
    go false e = some

pub at_may : (burst : ℕ) (may_poll again : Bool) (stations : List StationState)
    (waiting : CommandsWaiting) (place : ℕ) (phase : Phase) →
    MayWant (station_at stations place).link
    (wanted_by burst may_poll again (station_at stations place) (waiting place)
    (station_at stations place).link phase)
at_may burst may_poll again stations waiting place phase =
    wanted_may burst may_poll again (station_at stations place) (waiting place)
    (station_at stations place).link phase

pub first_may : (burst : ℕ) (may_poll : Bool) (stations : List StationState)
    (waiting : CommandsWaiting) (many place : ℕ)
    → 0 < length stations →
    MayChooseIt stations (first_after burst may_poll stations waiting many place)
first_may burst may_poll stations waiting zero place some = tt
first_may burst may_poll stations waiting (suc many) place some =
    or_may stations _ (place_after (length stations) place) _
    (place_fits (length stations) place some)
    (at_may burst may_poll false stations waiting (place_after (length stations) place) Starting)
    (first_may burst may_poll stations waiting many (place_after (length stations) place) some)

pub choice_may : (p : Primary) (may_poll : Bool) (waiting : CommandsWaiting) → IsFitting p
    → MayChooseIt p.stations (choice p may_poll waiting)
choice_may p may_poll waiting fits =
    or_may p.stations _ p.turn _ fits.turn
    (at_may p.settings.burst may_poll p.again p.stations waiting p.turn p.phase)
    (first_may p.settings.burst may_poll p.stations waiting (length p.stations) p.turn
    (omega (arith, fits.turn)))
