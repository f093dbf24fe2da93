-- Time tags of moments (IEC 60870-5-101, 7.2.6.18).
use Rattle.std.specs.Prelude.{◌≡◌, ◌⊎◌, ℕ, pos, ◌+◌, ◌*◌, ◌/◌, ◌%◌, ◌<◌, ◌≤◌, List, [], ◌∷◌}
use Rattle.std.specs.Prelude.{unsigned_abs, ℤ, slice_index}
use Rattle.jiff_core.specs.Calendar.{days_in_month, days_from_civil, weekday_number}

-- A moment of the years 2000 to 2099, in UTC. Monday is 1, and 0 leaves the day of the week out.
pub record Moment : Type 0 where
  pub year : ℕ
  pub month : ℕ
  pub day : ℕ
  pub weekday : ℕ
  pub hour : ℕ
  pub minute : ℕ
  pub millisecond : ℕ

-- its count of days since 1970-01-01 (proleptic Gregorian calendar)
abbrev pub days : Moment → ℤ
days m = days_from_civil (pos (2000 + m.year)) m.month m.day

-- There is such a moment, and its day of the week is that day's, or left out.
pub record Exists (m : Moment) : Type 0 where
  pub year : m.year < 100
  pub first_month : 1 ≤ m.month
  pub last_month : m.month ≤ 12
  pub first_day : 1 ≤ m.day
  pub last_day : m.day ≤ days_in_month (pos (2000 + m.year)) m.month
  pub day_bits : m.day < 32
  pub weekday : (m.weekday ≡ 0) ⊎ (m.weekday ≡ weekday_number (days m) + 1)
  pub weekday_bits : m.weekday < 8
  pub hour : m.hour < 24
  pub minute : m.minute < 60
  pub millisecond : m.millisecond < 60000

-- Its tag: milliseconds of the minute, low octet first; minute; hour; day in bits 4 to 0 with the
-- day of the week above it; month; year.
abbrev pub tag_of : Moment → List ℕ
tag_of m =
    (m.millisecond % 256) ∷ (m.millisecond / 256) ∷ m.minute ∷ m.hour ∷ (m.day + 32 * m.weekday)
    ∷ m.month
    ∷ m.year ∷ []

-- milliseconds since 1970-01-01
abbrev pub instant : Moment → ℕ
instant m =
    unsigned_abs (days m) * 86_400_000 + m.hour * 3_600_000 + m.minute * 60_000 + m.millisecond

-- the tag names this moment, each number by its bits
pub record Names (m : Moment) (octets : List ℕ) : Type 0 where
  pub millisecond : slice_index octets 0 + 256 * slice_index octets 1 ≡ m.millisecond
  pub minute : slice_index octets 2 % 64 ≡ m.minute
  pub hour : slice_index octets 3 % 32 ≡ m.hour
  pub day : slice_index octets 4 % 32 ≡ m.day
  pub weekday : slice_index octets 4 / 32 ≡ m.weekday
  pub month : slice_index octets 5 % 16 ≡ m.month
  pub year : slice_index octets 6 % 128 ≡ m.year

-- A number is over what a tag may say: a minute has 60 seconds and an hour 60 minutes, hours go
-- from 0 to 23, days from 1 on, months from 1 to 12 and years from 0 to 99.
abbrev pub IsOverRange : Moment → Type 0
IsOverRange m =
    (60_000 ≤ m.millisecond) ⊎ (60 ≤ m.minute) ⊎ (24 ≤ m.hour) ⊎ (m.day ≡ 0) ⊎ (m.month ≡ 0)
    ⊎ (13 ≤ m.month)
    ⊎ (100 ≤ m.year)

-- none is, though the month may have no such day and the day of the week be another's
pub record IsWithinRange (m : Moment) : Type 0 where
  pub millisecond : m.millisecond < 60_000
  pub minute : m.minute < 60
  pub hour : m.hour < 24
  pub first_day : 1 ≤ m.day
  pub first_month : 1 ≤ m.month
  pub last_month : m.month ≤ 12
  pub year : m.year < 100

-- the days of its month
abbrev pub month_days : Moment → ℕ
month_days m = days_in_month (pos (2000 + m.year)) m.month
