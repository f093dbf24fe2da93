-- A command that is sent is the one that is held, or the one that waits.
use Rattle.std.proofs.Common.{◌≡◌, ℕ, zero, suc, ◌⊎◌, inl, inr, ◌&&◌, ◌||◌, nat_lt, Bool, true}
use Rattle.std.proofs.Common.{false, not, List, length, Option, Some, None, refl, ap, subst, ◌∙◌}
use Rattle.std.proofs.Common.{if◌then◌else◌}
use Rattle.link.specs.Answers.{Service, Class1, Class2, Command, Asked, Counted}
use Rattle.link.specs.Procedure.{Link, Down, Available, Next, Held, is_held}
use Rattle.link.specs.Turns.{StationState, Phase, Starting, Commanding, Polling, Class1Polling}
use Rattle.link.specs.Turns.{Over, station_at, Wanted, wants, is_poll, wanted, wanted_poll}
use Rattle.link.specs.Turns.{polls_from, wanted_command, commands_from, next_of, wanted_by, Chosen}
use Rattle.link.specs.Turns.{CommandsWaiting, place_after, chosen_or, first_after}
use Rattle.link.specs.Exchanges.{Sending}
use Rattle.link.specs.Primary.{Outstanding, Primary, choice, sending_by, sending_from, sending}
use Rattle.link.specs.Procedure.{Silence}
use Rattle.link.specs.Turns.{is_doubted}
use Rattle.link.specs.Answers.{Status}

abbrev pub IsKnownCommand : Link → (command : Option (List ℕ)) → Asked → Type 0
IsKnownCommand link command (Counted fcb (Command asdu)) = (is_held link ≡ true)
    ⊎ (command ≡ Some asdu)
IsKnownCommand link command request = Unit {0}

abbrev pub IsKnownWant : Link → (command : Option (List ℕ)) → Option Wanted → Type 0
IsKnownWant link command None = Unit {0}
IsKnownWant link command (Some w) = IsKnownCommand link command w.request

abbrev pub IsKnownChoice : List StationState → CommandsWaiting → Option Chosen → Type 0
IsKnownChoice stations waiting None = Unit {0}
IsKnownChoice stations waiting (Some c) = IsKnownCommand (station_at stations c.station).link
    (waiting c.station) c.wanted.request

held_known : (fcb : Bool) (service : Service) (missed : Silence) (command : Option (List ℕ))
    → IsKnownCommand (Held fcb service missed) command (Counted fcb service)
held_known fcb Class1 missed command = tt
held_known fcb Class2 missed command = tt
held_known fcb (Command asdu) missed command = inl refl

poll_known : (link : Link) (command : Option (List ℕ)) (burst : ℕ) (fcb acd : Bool) (phase : Phase)
    → IsKnownWant link command (wanted_poll burst fcb acd phase)
poll_known link command burst fcb true Polling = tt
poll_known link command burst fcb false Polling = tt
poll_known link command burst fcb acd (Class1Polling sent) = go (acd && nat_lt sent burst)
  where
    go : (b : Bool) → IsKnownWant link command (if b then wants (Counted fcb Class1)
        (Class1Polling (suc sent)) else None)
    go true = tt
    go false = tt
poll_known link command burst fcb acd Starting = tt
poll_known link command burst fcb acd Commanding = tt
poll_known link command burst fcb acd Over = tt

polls_known : (link : Link) (command : Option (List ℕ)) (burst : ℕ) (may_poll fcb : Bool)
    (s : StationState)
    (phase : Phase) →
    IsKnownWant link command (polls_from burst may_poll fcb s phase)
polls_known link command burst true fcb s phase = poll_known link command burst fcb s.acd phase
polls_known link command burst false fcb s phase = tt

commands_known : (link : Link) (burst : ℕ) (may_poll fcb : Bool) (s : StationState)
    (command : Option (List ℕ)) →
    IsKnownWant link command (commands_from burst may_poll fcb s command)
commands_known link burst may_poll fcb s None = polls_known link None burst may_poll fcb s Polling
commands_known link burst may_poll fcb s (Some asdu) = go s.dfc
  where
    go : (b : Bool) → IsKnownWant link (Some asdu)
        (if b then polls_from burst may_poll fcb s Polling else wanted_command fcb asdu)
    go true = polls_known link (Some asdu) burst may_poll fcb s Polling
    go false = inr refl

next_known : (link : Link) (burst : ℕ) (may_poll fcb : Bool) (s : StationState)
    (command : Option (List ℕ)) (phase : Phase)
    → IsKnownWant link command (next_of burst may_poll fcb s command phase)
next_known link burst may_poll fcb s command Starting =
    commands_known link burst may_poll fcb s command
next_known link burst may_poll fcb s command Commanding =
    commands_known link burst may_poll fcb s command
next_known link burst may_poll fcb s command Polling = polls_known link command burst may_poll fcb s
    Polling
next_known link burst may_poll fcb s command (Class1Polling sent) =
    polls_known link command burst may_poll fcb s (Class1Polling sent)
next_known link burst may_poll fcb s command Over = tt

again_known : (burst : ℕ) (may_poll again fcb : Bool) (service : Service) (missed : Silence)
    (s : StationState) (command : Option (List ℕ)) (phase : Phase) →
    IsKnownWant (Held fcb service missed) command
    (wanted_by burst may_poll again s command (Held fcb service missed) phase)
again_known burst may_poll again fcb service missed s command Starting =
    go (is_doubted s missed) (may_poll || not (is_poll service))
  where
    go : (doubted b : Bool) → IsKnownWant (Held fcb service missed) command
        (if doubted then wants Status Over
        else if b then wants (Counted fcb service) Commanding else None)
    go true b = tt
    go false true = held_known fcb service missed command
    go false false = tt
again_known burst may_poll true fcb service missed s command Commanding =
    held_known fcb service missed command
again_known burst may_poll true fcb service missed s command Polling =
    held_known fcb service missed command
again_known burst may_poll true fcb service missed s command (Class1Polling sent) =
    held_known fcb service missed command
again_known burst may_poll true fcb service missed s command Over =
    held_known fcb service missed command
again_known burst may_poll false fcb service missed s command Commanding = tt
again_known burst may_poll false fcb service missed s command Polling = tt
again_known burst may_poll false fcb service missed s command (Class1Polling sent) = tt
again_known burst may_poll false fcb service missed s command Over = tt

wanted_known : (burst : ℕ) (may_poll again : Bool) (s : StationState)
    (command : Option (List ℕ)) (link : Link) (phase : Phase)
    → IsKnownWant link command (wanted_by burst may_poll again s command link phase)
wanted_known burst may_poll again s command (Next fcb) phase =
    next_known (Next fcb) burst may_poll fcb s command phase
wanted_known burst may_poll again s command (Held fcb service missed) phase =
    again_known burst may_poll again fcb service missed s command phase
wanted_known burst may_poll again s command Down Starting = tt
wanted_known burst may_poll again s command Down Commanding = tt
wanted_known burst may_poll again s command Down Polling = tt
wanted_known burst may_poll again s command Down (Class1Polling sent) = tt
wanted_known burst may_poll again s command Down Over = tt
wanted_known burst may_poll again s command Available Starting = tt
wanted_known burst may_poll again s command Available Commanding = tt
wanted_known burst may_poll again s command Available Polling = tt
wanted_known burst may_poll again s command Available (Class1Polling sent) = tt
wanted_known burst may_poll again s command Available Over = tt

or_known : (stations : List StationState) (waiting : CommandsWaiting) (w : Option Wanted)
    (place : ℕ) (other : Option Chosen) →
    IsKnownWant (station_at stations place).link (waiting place) w
    → IsKnownChoice stations waiting other
    → IsKnownChoice stations waiting (chosen_or w place other)
or_known stations waiting None place other known rest = rest
or_known stations waiting (Some w) place other known rest = known

at_known : (burst : ℕ) (may_poll again : Bool) (s : StationState) (command : Option (List ℕ))
    (phase : Phase)
    → IsKnownWant s.link command (wanted burst may_poll again s command phase)
at_known burst may_poll again s command phase =
    wanted_known burst may_poll again s command s.link phase

first_known : (burst : ℕ) (may_poll : Bool) (stations : List StationState)
    (waiting : CommandsWaiting) (many place : ℕ)
    → IsKnownChoice stations waiting (first_after burst may_poll stations waiting many place)
first_known burst may_poll stations waiting zero place = tt
first_known burst may_poll stations waiting (suc many) place =
    or_known stations waiting _ (place_after (length stations) place) _
    (at_known burst may_poll false (station_at stations (place_after (length stations) place))
    (waiting (place_after (length stations) place)) Starting)
    (first_known burst may_poll stations waiting many (place_after (length stations) place))

pub choice_known : (p : Primary) (may_poll : Bool) (waiting : CommandsWaiting)
    → IsKnownChoice p.stations waiting (choice p may_poll waiting)
choice_known p may_poll waiting =
    or_known p.stations waiting _ p.turn _ (at_known p.settings.burst may_poll p.again
    (station_at p.stations p.turn) (waiting p.turn) p.phase)
    (first_known p.settings.burst may_poll p.stations waiting (length p.stations) p.turn)

-- a command that goes out for the first time is the one that waited
pub begun_waited : (p : Primary) (may_poll : Bool) (waiting : CommandsWaiting) (s : Sending)
    (fcb : Bool) (asdu : List ℕ)
    → sending p may_poll waiting ≡ Some s → s.request ≡ Counted fcb (Command asdu) →
    is_held (station_at p.stations s.station).link ≡ false → waiting s.station ≡ Some asdu
begun_waited p may_poll waiting s fcb asdu = go p.outstanding
  where
    by : (i : ℕ) → (is_held (station_at p.stations i).link ≡ true) ⊎ (waiting i ≡ Some asdu)
        → is_held (station_at p.stations i).link ≡ false → waiting i ≡ Some asdu
    by i (inl held) free = cc
    by i (inr waits) free = waits

    choose : (c : Option Chosen) → IsKnownChoice p.stations waiting c → sending_by c ≡ Some s
        → s.request ≡ Counted fcb (Command asdu) →
        is_held (station_at p.stations s.station).link ≡ false → waiting s.station ≡ Some asdu
    choose None known none is = cc
    choose (Some c) known some is =
        let same : record { station = c.station; request = c.wanted.request } ≡ s = cc in
        let asks : c.wanted.request ≡ Counted fcb (Command asdu) =
        ap (λ (z : Sending). z.request) same ∙ is in
        subst (λ (z : Sending). is_held (station_at p.stations z.station).link ≡ false
        → waiting z.station ≡ Some asdu) same
        (by c.station (subst (λ (r : Asked). IsKnownCommand (station_at p.stations c.station).link
        (waiting c.station) r) asks known))

    go : (o : Option Outstanding) → sending_from p o may_poll waiting ≡ Some s → s.request
        ≡ Counted fcb (Command asdu) →
        is_held (station_at p.stations s.station).link ≡ false → waiting s.station ≡ Some asdu
    go (Some o) none is = cc
    go None some is =
        choose (choice p may_poll waiting) (choice_known p may_poll waiting) some is
