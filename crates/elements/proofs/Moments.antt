-- The tag of each moment is good.
use Rattle.std.specs.Prelude.{◌==◌, ◌&&◌, nat_le, nat_lt, if◌then◌else◌}
use Rattle.std.proofs.Common.{◌≡◌, ◌⊎◌, ℕ, ◌+◌, ◌*◌, ◌/◌, ◌%◌, ◌≤◌, ◌<◌, not, Bool, true, false}
use Rattle.std.proofs.Common.{List, refl, sym, ap, ◌∙◌, inl, inr, arith}
use Rattle.std.proofs.lemmas.Bool.{eq-eqb}
use Rattle.jiff_core.specs.Calendar.{weekday_number}
use Rattle.elements.specs.declared.tag.TagFields.{TagFields}
use Rattle.std.specs.Prelude.{slice_index}
use Rattle.elements.specs.declared.tag.Verdict.TheVariants.{Good, MarkedInvalid, OutOfRange}
use Rattle.elements.specs.declared.tag.Verdict.TheVariants.{NoSuchDay, WrongWeekday}
use Rattle.elements.specs.TimeTag.{fields_of, is_out_of_range, day_exists}
use Rattle.elements.specs.TimeTag.{is_weekday_wrong, instant_of, verdict_of_fields, verdict_of}
use Rattle.elements.specs.Moments.{Moment, days, Exists, tag_of, instant}

abbrev pub fields : Moment → TagFields
fields m = record {
  millisecond = m.millisecond;
  minute = m.minute;
  invalid = false;
  hour = m.hour;
  day = m.day;
  weekday = m.weekday;
  month = m.month;
  year = m.year;
}

abbrev pub fields_by : (ms minute hour day weekday month year : ℕ) (invalid : Bool) → TagFields
fields_by ms minute hour day weekday month year invalid = record {
  millisecond = ms;
  minute = minute;
  invalid = invalid;
  hour = hour;
  day = day;
  weekday = weekday;
  month = month;
  year = year;
}

made : (ms minute hour day weekday month year : ℕ) (invalid : Bool) (m : Moment)
    → ms ≡ m.millisecond → minute ≡ m.minute → invalid ≡ false → hour ≡ m.hour → day ≡ m.day
    → weekday ≡ m.weekday → month ≡ m.month → year ≡ m.year
    → fields_by ms minute hour day weekday month year invalid ≡ fields m
made ms minute hour day weekday month year invalid m a b c d e f g h =
    rw (a, b, c, d, e, f, g, h) refl

fields_are : (m : Moment) → Exists m → fields_of (tag_of m) ≡ fields m
fields_are m is =
    let ms : m.millisecond % 256 + 256 * (m.millisecond / 256) ≡ m.millisecond = omega arith in
    let minute : m.minute % 64 ≡ m.minute = omega (arith, is.minute) in
    let invalid : nat_le 128 m.minute ≡ false = (let small = is.minute in grind arith) in
    let hour : m.hour % 32 ≡ m.hour = omega (arith, is.hour) in
    let day : (m.day + 32 * m.weekday) % 32 ≡ m.day = omega (arith, is.day_bits) in
    let weekday : (m.day + 32 * m.weekday) / 32 ≡ m.weekday = omega (arith, is.day_bits) in
    let month : m.month % 16 ≡ m.month = omega (arith, is.last_month) in
    let year : m.year % 128 ≡ m.year = omega (arith, is.year) in
    made (m.millisecond % 256 + 256 * (m.millisecond / 256)) (m.minute % 64) (m.hour % 32)
    ((m.day + 32 * m.weekday) % 32) ((m.day + 32 * m.weekday) / 32) (m.month % 16) (m.year % 128)
    (nat_le 128 m.minute) m ms minute invalid hour day weekday month year

pub not_over : (most n : ℕ) → n ≤ most → nat_lt most n ≡ false
not_over most n le = grind arith

pub not_none : (n : ℕ) → 1 ≤ n → (n == 0) ≡ false
not_none n some = grind arith

in_range : (m : Moment) → Exists m → is_out_of_range (fields m) ≡ false
in_range m is =
    let ms = not_over 59999 m.millisecond (omega (arith, is.millisecond)) in
    let minute = not_over 59 m.minute (omega (arith, is.minute)) in
    let hour = not_over 23 m.hour (omega (arith, is.hour)) in
    let day = not_none m.day is.first_day in
    let month = not_none m.month is.first_month in
    let last = not_over 12 m.month is.last_month in
    let year = not_over 99 m.year (omega (arith, is.year)) in
    rw (ms, minute, hour, day, month, last, year) refl

exists : (m : Moment) → Exists m → day_exists (fields m) ≡ true
exists m is = (let last = is.last_day in grind arith)

pub right_day : (m : Moment) → (m.weekday ≡ 0) ⊎ (m.weekday ≡ weekday_number (days m) + 1)
    → is_weekday_wrong (fields m) ≡ false
right_day m (inl none) = ap (λ (b : Bool). not b && not (m.weekday == weekday_number (days m) + 1))
    (eq-eqb m.weekday 0 none)
right_day m (inr right) = go (m.weekday == 0)
  where
    go : (b : Bool) → (not b && not (m.weekday == weekday_number (days m) + 1)) ≡ false
    go true = refl
    go false = ap not (eq-eqb m.weekday (weekday_number (days m) + 1) right)

pub good : (m : Moment) → Exists m → verdict_of (tag_of m) ≡ Good (instant m)
good m is =
    ap verdict_of_fields (fields_are m is)
    ∙ (let range = in_range m is in
    let day = exists m is in
    let weekday = right_day m is.weekday in
    rw (range, day, weekday) refl)

never_good : (out exists wrong : Bool) (n m : ℕ)
    → (if out then OutOfRange else if not exists then NoSuchDay else if wrong then WrongWeekday
    else if true then MarkedInvalid else Good n) ≡ Good m → ⊥
never_good true exists wrong n m e = cc
never_good false false wrong n m e = cc
never_good false true true n m e = cc
never_good false true false n m e = cc

pub marked : (octets : List ℕ) (m : ℕ) → 128 ≤ slice_index octets 2
    → verdict_of octets ≡ Good m → ⊥
marked octets m iv e =
    let f : TagFields = fields_of octets in
    let is : nat_le 128 (slice_index octets 2) ≡ true = grind arith in
    never_good (is_out_of_range f) (day_exists f) (is_weekday_wrong f) (instant_of f) m
    (sym (ap (λ (b : Bool). if is_out_of_range f then OutOfRange
    else if not (day_exists f) then NoSuchDay else if is_weekday_wrong f then WrongWeekday
    else if b then MarkedInvalid else Good (instant_of f)) is) ∙ e)

-- ---- reserved bits

some : (n : ℕ) → (n == 0) ≡ false → 1 ≤ n
some n e = grind arith
