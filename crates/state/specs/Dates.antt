-- When the latest event of a state was, by the wall clock (texts of this gateway's own profile).
use Rattle.std.specs.Io.Iter.{u64_saturate}
use Rattle.std.specs.Prelude.{◌≡◌, ◌⊎◌, ℕ, ◌+◌, ◌-◌, ◌*ℤ◌, ℤ, pos, false, List, [], ◌∷◌, ◌++◌}
use Rattle.std.specs.Prelude.{codes, MatchOption, Some}
use Rattle.jiff_core.specs.DateTime.{civil_nanos}
use Rattle.jiff_core.specs.Timestamp.{IsTimestampNanos}
use Rattle.jiff_core.specs.declared.civil.datetime.DateTime.{DateTime}
use Rattle.jiff_fmt.specs.Text.{datetime_text}
use Rattle.gateway.specs.State.{State}
use Rattle.gateway.specs.declared.walls.Wall.{Wall}

-- so many ns behind 1970-01-01 00:00 UTC are so many ms
abbrev pub IsInstant : (ms : ℕ) → (ns : ℤ) → Type 0
IsInstant ms ns = ns ≡ pos ms *ℤ pos 1_000_000

-- there is such an instant, before the year 10000
abbrev pub IsInstantAt : (ms : ℕ) → Type 0
IsInstantAt ms = IsTimestampNanos (pos ms *ℤ pos 1_000_000)

-- The text of that instant (RFC 3339): the date, `T`, the time of day with three places of the
-- second, and `Z`. If there is none it is said so.
abbrev pub IsDate : (ms : ℕ) → (text : List ℕ) → Type 0
IsDate ms text = ((date : DateTime) × IsInstant ms (civil_nanos date)
    × (text ≡ datetime_text false 84 (Some 3) date ++ 90 ∷ []))
    ⊎ ((IsInstantAt ms → ⊥) × (text ≡ codes "no date"))

-- what the wall clock shows at a moment
abbrev pub wall_at : Wall → (moment : ℕ) → ℕ
wall_at wall moment = u64_saturate (wall.number + (moment - wall.moment))

abbrev pub dates_line : (event wall : List ℕ) → List ℕ
dates_line event wall =
    codes "latest event " ++ event ++ codes ", wall clock told " ++ wall ++ 10 ∷ []

-- the line of both
pub record AreDates (latest told : ℕ) (text : List ℕ) : Type 0 where
  pub event : List ℕ
  pub wall : List ℕ
  pub event_is : IsDate latest event
  pub wall_is : IsDate told wall
  pub is : text ≡ dates_line event wall

-- the dates of a gateway's latest event and of its wall clock, if that was told
abbrev pub IsDated : State → (text : List ℕ) → Type 0
IsDated s text =
    MatchOption s.wall (text ≡ []) (λ wall. AreDates (wall_at wall s.moment) wall.number text)
