-- A turn is one visit (this gateway's own profile, over the procedures of IEC 60870-5-2): when a
-- visit has had what it may have, or nothing went out, the other stations come first.
use Rattle.std.specs.Prelude.{◌≡◌, ◌⊎◌, ℕ, Bool, true, false, List, [], ◌∷◌, Option, Some, None}
use Rattle.link.specs.Answers.{Command, Counted}
use Rattle.link.specs.Bursts.{is_answered}
use Rattle.link.specs.Exchanges.{Sending}
use Rattle.link.specs.Procedure.{is_held, has_repeats}
use Rattle.link.specs.Turns.{CommandsWaiting, station_at}
use Rattle.link.specs.Primary.{Outstanding, Primary, sending}
use Rattle.link.specs.Runs.{Call, Next, called, BeginsTurn}
use Rattle.link.specs.Visits.{Left, whole_visit, MayFollow}

-- which visit the latest requests are: its station, and what it may still have
pub record Present : Type 0 where
  pub station : ℕ
  pub left : Left

-- nothing more
abbrev pub nothing_left : Left
nothing_left = record { plan = []; repeats = 0 }

-- The request is one that the visit still has. A held service has a repeat left.
abbrev pub GoesOn : Primary → Present → Sending → (later : Left) → Type 0
GoesOn p v s later =
    (s.station ≡ v.station)
    × (is_held (station_at p.stations s.station).link ≡ true →
    has_repeats p.settings (station_at p.stations s.station).link ≡ true)
    × MayFollow p.settings (station_at p.stations s.station).link v.left s.request later

-- It is the command that waits for the station, if the latest service is answered and DFC was clear
-- in that answer.
abbrev pub IsCommandFirst : Primary → CommandsWaiting → Sending → Type 0
IsCommandFirst p waiting s =
    (asdu : List ℕ) → waiting s.station ≡ Some asdu →
    is_answered (station_at p.stations s.station).link ≡ true →
    (station_at p.stations s.station).dfc ≡ false →
    (fcb : Bool) × (s.request ≡ Counted fcb (Command asdu))

-- It begins another visit: that of the first station, round from the one behind this visit's
-- station, that has a request. A command that waits is first.
abbrev pub Begins : Primary → (may_poll : Bool) → CommandsWaiting → Present → Sending →
    (later : Left) → Type 0
Begins p may_poll waiting v s later =
    BeginsTurn (record p { turn = v.station }) may_poll waiting s
    × IsCommandFirst p waiting s
    × MayFollow p.settings (station_at p.stations s.station).link
    (whole_visit p.settings (station_at p.stations s.station).link) s.request later

-- What a request makes of the visit. It is over if nothing went out.
abbrev pub IsVisited : Primary → (may_poll : Bool) → CommandsWaiting → Option Sending →
    (before after : Present) → Type 0
IsVisited p may_poll waiting None v v' = v' ≡ record { station = v.station; left = nothing_left }
IsVisited p may_poll waiting (Some s) v v' =
    (v'.station ≡ s.station) × (GoesOn p v s v'.left ⊎ Begins p may_poll waiting v s v'.left)

-- Nothing goes out while a request is outstanding.
abbrev pub IsVisitedBy : Primary → (may_poll : Bool) → CommandsWaiting → Option Outstanding →
    (before after : Present) → Type 0
IsVisitedBy p may_poll waiting (Some o) v v' = v' ≡ v
IsVisitedBy p may_poll waiting None v v' =
    IsVisited p may_poll waiting (sending p may_poll waiting) v v'

-- what a call makes of the visit
abbrev pub VisitStep : Primary → Call → (before after : Present) → Type 0
VisitStep p (Next now may_poll waiting) v v' =
    IsVisitedBy p may_poll waiting p.outstanding v v'
VisitStep p call v v' = v' ≡ v

-- The requests of these calls go on with the visit, and then with one visit each, in turn.
abbrev pub TurnsAreVisits : Primary → Present → List Call → Type 0
TurnsAreVisits p v [] = Unit {0}
TurnsAreVisits p v (call ∷ calls) =
    (v' : Present) × VisitStep p call v v' × TurnsAreVisits (called p call) v' calls
