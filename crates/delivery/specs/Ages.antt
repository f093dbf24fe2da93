-- A time tag and the moment that it names (IEC 60870-5-101, 7.2.6.18, in the proleptic Gregorian
-- calendar). That a tag is UTC, and that its years are 2000 to 2099, is this gateway's own profile.
-- Nothing here is borrowed from `elements`.
use Rattle.std.specs.Prelude.{◌≡◌, ◌⊎◌, ◌≤◌, ◌+◌, ◌*◌, ◌/◌, ◌%◌, ℕ, pos, List, [], ◌∷◌}
use Rattle.std.specs.Prelude.{unsigned_abs}
use Rattle.jiff_core.specs.Calendar.{days_from_civil, days_in_month, weekday_number}

-- Monday is 1; 0 leaves the day of the week out
pub record CalendarTime : Type 0 where
  pub year : ℕ
  pub month : ℕ
  pub day : ℕ
  pub weekday : ℕ
  pub hour : ℕ
  pub minute : ℕ
  pub millisecond : ℕ

-- There is such a time. Years count from 2000, and milliseconds from the minute.
pub record IsOfCalendar (t : CalendarTime) : Type 0 where
  pub year : t.year ≤ 99
  pub month : (1 ≤ t.month) × (t.month ≤ 12)
  pub day : (1 ≤ t.day) × (t.day ≤ 31) × (t.day ≤ days_in_month (pos (2000 + t.year)) t.month)
  pub weekday : (t.weekday ≤ 7) × ((t.weekday ≡ 0)
      ⊎ (t.weekday ≡ weekday_number (days_from_civil (pos (2000 + t.year)) t.month t.day) + 1))
  pub hour : t.hour ≤ 23
  pub minute : t.minute ≤ 59
  pub millisecond : t.millisecond ≤ 59_999

-- its milliseconds since 1970-01-01 00:00 UTC
abbrev pub since_1970 : CalendarTime → ℕ
since_1970 t =
    unsigned_abs (days_from_civil (pos (2000 + t.year)) t.month t.day) * 86_400_000
    + t.hour * 3_600_000 + t.minute * 60_000 + t.millisecond

-- its tag: the milliseconds in two octets, the low one first; minute; hour; day, with the day of
-- the week in bits 7 to 5; month; year
abbrev pub tag_octets : CalendarTime → List ℕ
tag_octets t =
    (t.millisecond % 256) ∷ (t.millisecond / 256) ∷ t.minute ∷ t.hour ∷ (t.day + 32 * t.weekday)
    ∷ t.month ∷ t.year ∷ []
