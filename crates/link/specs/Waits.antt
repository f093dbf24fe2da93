-- How long a station waits for a request to it (this gateway's own profile).
use Rattle.std.specs.Prelude.{◌≡◌, ◌⊎◌, ℕ, suc, ◌==◌, true, List, [], ◌∷◌, ◌++◌, Option, Some, None}
use Rattle.std.specs.Prelude.{if◌then◌else◌}
use Rattle.link.specs.Exchanges.{Sending}
use Rattle.link.specs.Turns.{station_at}
use Rattle.link.specs.Primary.{Primary, sending}
use Rattle.link.specs.Leave.{IsLeftToPolls}
use Rattle.link.specs.Runs.{Call, Next, called}

-- If a request goes out, something is left to be asked of the station, too: it may be polled, or it
-- has more than polls.
abbrev pub WantsAt : Primary → (station : ℕ) → Call → Type 0
WantsAt p station (Next now may_poll waiting) =
    (s : Sending) → sending p may_poll waiting ≡ Some s → (may_poll ≡ true)
    ⊎ (IsLeftToPolls (station_at p.stations station) (waiting station)
    (station_at p.stations station).link → ⊥)
WantsAt p station call = Unit {0}

-- at each of these calls at which a request goes out
abbrev pub AlwaysWants : Primary → (station : ℕ) → List Call → Type 0
AlwaysWants p station [] = Unit {0}
AlwaysWants p station (call ∷ calls) =
    WantsAt p station call × AlwaysWants (called p call) station calls

abbrev pub station_in : Option Sending → List ℕ
station_in None = []
station_in (Some s) = s.station ∷ []

abbrev pub stations_by : Primary → Call → List ℕ
stations_by p (Next now may_poll waiting) = station_in (sending p may_poll waiting)
stations_by p call = []

-- the stations of the requests that go out
abbrev pub stations_asked : Primary → List Call → List ℕ
stations_asked p [] = []
stations_asked p (call ∷ calls) = stations_by p call ++ stations_asked (called p call) calls

-- how many requests have gone to other stations since the latest to this one, with so many before
abbrev pub waited : (station before : ℕ) → List ℕ → ℕ
waited station before [] = before
waited station before (asked ∷ later) =
    waited station (if asked == station then 0 else suc before) later
