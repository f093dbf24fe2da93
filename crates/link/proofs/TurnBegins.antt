-- What a turn begins with, by the link, and what may go out.
use Rattle.std.specs.Prelude.{option_map}
use Rattle.std.proofs.Common.{◌≡◌, ℕ, Bool, false, List, Option, Some, None, ap}
use Rattle.std.proofs.Common.{subst, ◌∙◌, ◌⊎◌, if◌then◌else◌}
use Rattle.std.specs.Prelude.{◌||◌}
use Rattle.link.specs.Answers.{Command, Asked, Counted}
use Rattle.link.specs.Exchanges.{Sending}
use Rattle.link.specs.Holding.{IsFitting}
use Rattle.link.specs.Procedure.{Link, Next, MaySend}
use Rattle.link.specs.Turns.{Starting, Polling, Wanted}
use Rattle.link.specs.Turns.{Chosen, CommandsWaiting, polls_from, wanted_command}
use Rattle.link.specs.Turns.{commands_from, wanted_by, station_at}
use Rattle.link.specs.Primary.{Outstanding, Primary, choice, sending_by, sending_from, sending}
use Rattle.link.specs.Runs.{first_request}
use Rattle.link.proofs.Choice.{MayChooseIt, choice_may}

-- what the turn of this station begins with, by this link
abbrev pub begins : Primary → (may_poll : Bool) → CommandsWaiting → (k : ℕ) → Link → Option Asked
begins p may_poll waiting k link =
    option_map (λ (w : Wanted). w.request) (wanted_by p.settings.burst may_poll false
    (station_at p.stations k) (waiting k) link Starting)

-- and by what comes of a command and polls
abbrev pub asks : Option Wanted → Option Asked
asks w = option_map (λ (v : Wanted). v.request) w

pub command : (p : Primary) (may_poll : Bool) (waiting : CommandsWaiting) (k : ℕ) (fcb : Bool)
    (asdu : List ℕ) → (station_at p.stations k).link ≡ Next fcb → waiting k ≡ Some asdu
    → (station_at p.stations k).dfc ≡ false
    → asks (first_request p may_poll waiting k) ≡ Some (Counted fcb (Command asdu))
command p may_poll waiting k fcb asdu is waits clear =
    ap (begins p may_poll waiting k) is
    ∙ ap (λ (c : Option (List ℕ)). asks (commands_from p.settings.burst may_poll fcb
    (station_at p.stations k) c)) waits
    ∙ ap (λ (b : Bool). asks (if b then polls_from p.settings.burst may_poll fcb
    (station_at p.stations k) Polling else wanted_command fcb asdu)) clear

pub may : (p : Primary) (may_poll : Bool) (waiting : CommandsWaiting) (s : Sending) → IsFitting p
    → sending p may_poll waiting ≡ Some s
    → MaySend (station_at p.stations s.station).link s.request
may p may_poll waiting s fits is = go p.outstanding is
  where
    chosen : (c : Option Chosen) → MayChooseIt p.stations c → sending_by c ≡ Some s
        → MaySend (station_at p.stations s.station).link s.request
    chosen None ok none = cc
    chosen (Some c) ok some =
        let same : record { station = c.station; request = c.wanted.request } ≡ s = cc in
        subst (λ (z : Sending). MaySend (station_at p.stations z.station).link z.request) same
        ok.may

    go : (o : Option Outstanding) → sending_from p o may_poll waiting ≡ Some s
        → MaySend (station_at p.stations s.station).link s.request
    go (Some o) none = cc
    go None some = chosen (choice p may_poll waiting) (choice_may p may_poll waiting fits) some
