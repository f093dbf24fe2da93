-- The time tag CP56Time2a (IEC 60870-5-101, 7.2.6.18; 60870-5-4, 6.8), and the verdict on it, which
-- is this gateway's own profile.
use Rattle.std.specs.Prelude.{ℕ, pos, ◌+◌, ◌*◌, ◌/◌, ◌%◌, ◌<◌, Bool, not, ◌&&◌, ◌||◌, ◌==◌, nat_lt}
use Rattle.std.specs.Prelude.{nat_le, if◌then◌else◌, List, slice_index, unsigned_abs, ℤ}
use Rattle.jiff_core.specs.Calendar.{days_in_month, days_from_civil, weekday_number}
use Rattle.jiff_core.specs.Date.{IsYmd}
use Rattle.jiff_core.specs.declared.civil.date.Date.{Date}
use Rattle.elements.specs.declared.tag.TagFields.{TagFields}
use Rattle.elements.specs.declared.tag.Verdict.{Verdict}
use Rattle.elements.specs.declared.tag.Verdict.TheVariants.{Good, MarkedInvalid, OutOfRange}
use Rattle.elements.specs.declared.tag.Verdict.TheVariants.{NoSuchDay, WrongWeekday}

-- ---- The fields

-- Octets 0 and 1 are the milliseconds of the minute; the minute is in bits 5 to 0 of octet 2, IV in
-- its bit 7; the hour in bits 4 to 0 of octet 3; the day in bits 4 to 0 of octet 4, the day of the
-- week in its bits 7 to 5; the month in bits 3 to 0 of octet 5; the year in bits 6 to 0 of octet 6.
-- SU and the reserved bits aren't read.
abbrev pub fields_of : List ℕ → TagFields
fields_of xs = record {
  millisecond = slice_index xs 0 + 256 * slice_index xs 1;
  minute = slice_index xs 2 % 64;
  invalid = nat_le 128 (slice_index xs 2);
  hour = slice_index xs 3 % 32;
  day = slice_index xs 4 % 32;
  weekday = slice_index xs 4 / 32;
  month = slice_index xs 5 % 16;
  year = slice_index xs 6 % 128;
}

-- what so many bits allow
abbrev pub AreBits : TagFields → Type 0
AreBits f = (f.day < 32) × (f.month < 16) × (f.weekday < 8)

-- ---- The verdict

-- Milliseconds over 59999, minute over 59, hour over 23, day 0, month 0 or over 12, year over 99.
abbrev pub is_out_of_range : TagFields → Bool
is_out_of_range f =
    nat_lt 59999 f.millisecond || nat_lt 59 f.minute || nat_lt 23 f.hour || (f.day == 0)
    || (f.month == 0)
    || nat_lt 12 f.month || nat_lt 99 f.year

-- the year of the Gregorian calendar: years 0 to 99 are 2000 to 2099 (this gateway's own profile)
abbrev pub year_of : TagFields → ℤ
year_of f = pos (2000 + f.year)

-- this date of the calendar library is the tag's
abbrev pub IsDateOf : TagFields → Date → Type 0
IsDateOf f d = IsYmd (year_of f) (pos f.month) (pos f.day) d

-- the month of that year has such a day (proleptic Gregorian calendar)
abbrev pub day_exists : TagFields → Bool
day_exists f = nat_le f.day (days_in_month (year_of f) f.month)

-- the count of days since 1970-01-01 (proleptic Gregorian calendar)
abbrev pub day_number : TagFields → ℤ
day_number f = days_from_civil (year_of f) f.month f.day

-- The tag names another day of the week than that day's, which comes from the count. Monday is 1; 0
-- is none.
abbrev pub is_weekday_wrong : TagFields → Bool
is_weekday_wrong f = not (f.weekday == 0) && not (f.weekday == weekday_number (day_number f) + 1)

-- milliseconds since 1970-01-01 00:00 UTC: the tag is UTC (this gateway's own profile)
abbrev pub instant_of : TagFields → ℕ
instant_of f =
    unsigned_abs (day_number f) * 86_400_000 + f.hour * 3_600_000 + f.minute * 60_000
    + f.millisecond

-- the first that applies
abbrev pub verdict_of_fields : TagFields → Verdict
verdict_of_fields f =
    if is_out_of_range f then OutOfRange
    else (if not (day_exists f) then NoSuchDay
    else (if is_weekday_wrong f then WrongWeekday
    else (if f.invalid then MarkedInvalid
    else Good (instant_of f))))

-- the verdict on a tag's seven octets
abbrev pub verdict_of : List ℕ → Verdict
verdict_of xs = verdict_of_fields (fields_of xs)
