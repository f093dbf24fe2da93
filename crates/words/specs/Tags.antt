-- Time tags in words (CP56Time2a, IEC 60870-5-101, 7.2.6.18): the fields as they stand, and what is
-- wrong with them.
use Rattle.std.specs.Prelude.{ℕ, ◌+◌, ◌*◌, ◌/◌, ◌%◌, codes, List, [], ◌++◌, slice_index, Option}
use Rattle.std.specs.Prelude.{Some, None}
use Rattle.std.specs.Fmt.{decimal}
use Rattle.elements.specs.declared.tag.Verdict.{Verdict}
use Rattle.elements.specs.declared.tag.Verdict.TheVariants.{Good, MarkedInvalid, OutOfRange}
use Rattle.elements.specs.declared.tag.Verdict.TheVariants.{NoSuchDay, WrongWeekday}
use Rattle.elements.specs.TimeTag.{verdict_of}
use Rattle.words.specs.Numbers.{mark, two_digits, three_digits}

-- the year in bits 6 to 0 of octet 6, from 2000 on; the month in bits 3 to 0 of octet 5; the day in
-- bits 4 to 0 of octet 4
unfoldable pub month_text : List ℕ → List ℕ
month_text xs =
    decimal (2000 + slice_index xs 6 % 128) ++ (codes "-" ++ two_digits (slice_index xs 5 % 16))

unfoldable pub date_text : List ℕ → List ℕ
date_text xs = month_text xs ++ (codes "-" ++ two_digits (slice_index xs 4 % 32))

-- the milliseconds of the minute, the low octet first
abbrev pub milliseconds : List ℕ → ℕ
milliseconds xs = slice_index xs 0 + 256 * slice_index xs 1

-- the hour in bits 4 to 0 of octet 3, the minute in bits 5 to 0 of octet 2
unfoldable pub minute_text : List ℕ → List ℕ
minute_text xs =
    two_digits (slice_index xs 3 % 32) ++ (codes ":" ++ two_digits (slice_index xs 2 % 64))

unfoldable pub second_text : ℕ → List ℕ
second_text ms = codes ":" ++ (two_digits (ms / 1000) ++ (codes "." ++ three_digits ms))

unfoldable pub time_text : List ℕ → List ℕ
time_text xs = minute_text xs ++ second_text (milliseconds xs)

-- what isn't seen in the fields
abbrev pub verdict_text : Verdict → List ℕ
verdict_text (Good ms) = []
verdict_text MarkedInvalid = []
verdict_text OutOfRange = codes " out of range"
verdict_text NoSuchDay = codes " no such day"
verdict_text WrongWeekday = codes " wrong weekday"

unfoldable pub verdict_words : List ℕ → List ℕ
verdict_words xs = verdict_text (verdict_of xs)

-- IV in bit 7 of octet 2, SU in bit 7 of octet 3
unfoldable pub remarks : List ℕ → List ℕ
remarks xs =
    mark 7 (slice_index xs 2) (codes " invalid")
    ++ (mark 7 (slice_index xs 3) (codes " summer time") ++ verdict_words xs)

unfoldable pub moment_text : List ℕ → List ℕ
moment_text xs = date_text xs ++ (codes " " ++ time_text xs)

unfoldable pub tag_words : List ℕ → List ℕ
tag_words xs = codes ", " ++ (moment_text xs ++ remarks xs)

-- of the tag behind an element, if there is one
abbrev pub tag_text : Option (List ℕ) → List ℕ
tag_text None = []
tag_text (Some xs) = tag_words xs
