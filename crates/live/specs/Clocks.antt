-- The system's clocks (this gateway's own profile).
use Rattle.std.specs.Prelude.{◌≡◌, ℕ, ◌+◌, ◌-◌, ◌/◌, ◌^◌, min, List, ◌∷◌, Option, Result, Ok, Err}
use Rattle.std.specs.Prelude.{option_map}
use Rattle.std.specs.Time.{instant_nanos, system_time_nanos}
use Rattle.std.specs.declared.time.Instant.{Instant}
use Rattle.std.specs.declared.time.SystemTime.{SystemTime}
use Rattle.std.specs.declared.io.Error.{Error}

-- the first moment is this one, and none later was given yet
abbrev pub BeginsAt : (moment first now : ℕ) → Type 0
BeginsAt moment first now = (first ≡ moment) × (now ≡ moment)

-- what the system answered so far when it was asked what its clock shows, the newest first, if that
-- is noted
abbrev pub Instants : Type 0
Instants = Option (List (Result Instant Error))

abbrev pub instant_noted : Result Instant Error → Instants → Instants
instant_noted answer before = option_map (λ all. answer ∷ all) before

-- its start is what the clock showed then
abbrev pub StartsNow : (old : Instants) → (start : Instant) → (new : Instants) → Type 0
StartsNow old start new = new ≡ instant_noted (Ok start) old

-- The moment is as many ms past the first one as the clock has gone on since its start, as far as
-- 64 bits count. If it can't be read, that is the last one again.
abbrev pub moment_by : (first : ℕ) → (start : Instant) → (last : ℕ) → Result Instant Error → ℕ
moment_by first start last (Ok now) =
    min (first + min ((instant_nanos now - instant_nanos start) / 1_000_000) (2 ^ 64 - 1))
    (2 ^ 64 - 1)
moment_by first start last (Err fault) = last

-- it is read once, and gives that moment
pub record GoesOn (first : ℕ) (start : Instant) (old : Instants) (last : ℕ) (new : Instants)
    (moment : ℕ) : Type 0 where
  pub answer : Result Instant Error
  pub asked : new ≡ instant_noted answer old
  pub given : moment ≡ moment_by first start last answer

-- what the system answered so far when it was asked what its wall clock shows
abbrev pub WallTimes : Type 0
WallTimes = Option (List (Result SystemTime Error))

abbrev pub wall_noted : Result SystemTime Error → WallTimes → WallTimes
wall_noted answer before = option_map (λ all. answer ∷ all) before

-- How many ms the wall clock shows since 1970, as far as 64 bits count. If it can't be read, that
-- is 0.
abbrev pub wall_by : Result SystemTime Error → ℕ
wall_by (Ok shown) = min (system_time_nanos shown / 1_000_000) (2 ^ 64 - 1)
wall_by (Err fault) = 0

-- it is read once, and shows that
pub record ShowsWall (old new : WallTimes) (shown : ℕ) : Type 0 where
  pub answer : Result SystemTime Error
  pub asked : new ≡ wall_noted answer old
  pub given : shown ≡ wall_by answer
