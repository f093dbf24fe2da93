-- Restarts, behind which it isn't known of a station whether it was restarted, too, until it
-- answers a service (this gateway's own profile).
use Rattle.std.specs.Prelude.{◌≡◌, ℕ, ◌==◌, ◌&&◌, not, Bool, true, false, List, [], ◌∷◌, Option}
use Rattle.std.specs.Prelude.{Some}
use Rattle.std.specs.Prelude.{None, is_none}
use Rattle.ft12.specs.Fronts.{front_of}
use Rattle.link.specs.Answers.{Status}
use Rattle.link.specs.Exchanges.{Sending}
use Rattle.link.specs.Procedure.{is_up, is_spent, is_service}
use Rattle.link.specs.Turns.{station_at}
use Rattle.link.specs.Primary.{Outstanding, Primary, sending, received}
use Rattle.link.specs.Runs.{Call, Next, Octets, Doubts, called}

-- None of these calls is a restart.
abbrev pub HaveNoRestart : List Call → Type 0
HaveNoRestart [] = Unit {0}
HaveNoRestart (Doubts ∷ calls) = ⊥
HaveNoRestart (call ∷ calls) = HaveNoRestart calls

-- These octets answer a service of the station.
abbrev pub are_served : Primary → Option Outstanding → (station : ℕ) → (octets : List ℕ) → Bool
are_served p None station octets = false
are_served p (Some o) station octets =
    (p.turn == station)
    && (is_service o.request && is_none (received (front_of p.settings.size) p octets).outstanding)

-- A restart stands behind the station, and it has answered no service since.
abbrev pub unsure_after : Primary → (station : ℕ) → Call → (before : Bool) → Bool
unsure_after p station Doubts before = true
unsure_after p station (Octets octets) before =
    before && not (are_served p p.outstanding station octets)
unsure_after p station call before = before

-- The status is asked of a station that is up only if that is in doubt, and its service has no
-- repeat left.
abbrev pub ProbesIfUnsure : Primary → (station : ℕ) → (unsure : Bool) → Call → Type 0
ProbesIfUnsure p station unsure (Next now may_poll waiting) =
    (s : Sending) → sending p may_poll waiting ≡ Some s → s.station ≡ station →
    s.request ≡ Status → is_up (station_at p.stations station).link ≡ true →
    (unsure ≡ true) × (is_spent (station_at p.stations station).link ≡ true)
ProbesIfUnsure p station unsure call = Unit {0}

-- at each of these calls
abbrev pub StatusesFollowRestarts : Primary → (station : ℕ) → (unsure : Bool) → List Call → Type 0
StatusesFollowRestarts p station unsure [] = Unit {0}
StatusesFollowRestarts p station unsure (call ∷ calls) =
    ProbesIfUnsure p station unsure call
    × StatusesFollowRestarts (called p call) station (unsure_after p station call unsure) calls
