-- What a tag is worth, by the numbers in its bits.
use Rattle.std.specs.Prelude.{◌==◌, ◌||◌, nat_le, nat_lt, if◌then◌else◌, slice_index}
use Rattle.std.proofs.Common.{◌≡◌, ◌≢◌, ◌⊎◌, ℕ, ◌+◌, ◌≤◌, ◌<◌, Bool, true, false, List}
use Rattle.std.proofs.Common.{refl, ap, ◌∙◌, inl, inr, arith}
use Rattle.std.proofs.lemmas.Bool.{ne_eqb}
use Rattle.jiff_core.specs.Calendar.{weekday_number}
use Rattle.elements.specs.declared.tag.TagFields.{TagFields}
use Rattle.elements.specs.declared.tag.Verdict.TheVariants.{Good, MarkedInvalid, OutOfRange}
use Rattle.elements.specs.declared.tag.Verdict.TheVariants.{NoSuchDay, WrongWeekday}
use Rattle.elements.specs.TimeTag.{fields_of, is_out_of_range, day_exists, is_weekday_wrong}
use Rattle.elements.specs.TimeTag.{verdict_of_fields, verdict_of}
use Rattle.elements.specs.Moments.{Moment, days, instant, Names, IsOverRange}
use Rattle.elements.specs.Moments.{IsWithinRange, month_days}
use Rattle.elements.proofs.Moments.{fields_by, right_day, not_over, not_none}

-- the fields of a tag of these numbers, with IV or without
abbrev with_mark : Moment → Bool → TagFields
with_mark m mark =
    fields_by m.millisecond m.minute m.hour m.day m.weekday m.month m.year mark

named : (octets : List ℕ) (m : Moment) → Names m octets
    → fields_of octets ≡ with_mark m (nat_le 128 (slice_index octets 2))
named octets m n =
    rw (n.millisecond, n.minute, n.hour, n.day, n.weekday, n.month, n.year) refl

over : (most n : ℕ) → most + 1 ≤ n → nat_lt most n ≡ true
over most n more = grind arith

none : (n : ℕ) → n ≡ 0 → (n == 0) ≡ true
none n zero = grind arith

any : (a b c d e f g : Bool)
    → (a ≡ true)
    ⊎ ((b ≡ true) ⊎ ((c ≡ true) ⊎ ((d ≡ true) ⊎ ((e ≡ true) ⊎ ((f ≡ true) ⊎ (g ≡ true))))))
    → (a || b || c || d || e || f || g) ≡ true
any a b c d e f g one = grind arith

is_over : (m : Moment) (mark : Bool) → IsOverRange m → is_out_of_range (with_mark m mark) ≡ true
is_over m mark one =
    any (nat_lt 59999 m.millisecond) (nat_lt 59 m.minute) (nat_lt 23 m.hour) (m.day == 0)
    (m.month == 0) (nat_lt 12 m.month) (nat_lt 99 m.year) (which one)
  where
    which : IsOverRange m → (nat_lt 59999 m.millisecond ≡ true) ⊎ ((nat_lt 59 m.minute ≡ true)
        ⊎ ((nat_lt 23 m.hour ≡ true) ⊎ (((m.day == 0) ≡ true) ⊎ (((m.month == 0) ≡ true)
        ⊎ ((nat_lt 12 m.month ≡ true) ⊎ (nat_lt 99 m.year ≡ true))))))
    which (inl h) = inl (over 59999 m.millisecond h)
    which (inr (inl h)) = inr (inl (over 59 m.minute h))
    which (inr (inr (inl h))) = inr (inr (inl (over 23 m.hour h)))
    which (inr (inr (inr (inl h)))) = inr (inr (inr (inl (none m.day h))))
    which (inr (inr (inr (inr (inl h))))) = inr (inr (inr (inr (inl (none m.month h)))))
    which (inr (inr (inr (inr (inr (inl h)))))) =
        inr (inr (inr (inr (inr (inl (over 12 m.month h))))))
    which (inr (inr (inr (inr (inr (inr h)))))) =
        inr (inr (inr (inr (inr (inr (over 99 m.year h))))))

within : (m : Moment) (mark : Bool) → IsWithinRange m
    → is_out_of_range (with_mark m mark) ≡ false
within m mark is =
    let ms = not_over 59999 m.millisecond (omega (arith, is.millisecond)) in
    let minute = not_over 59 m.minute (omega (arith, is.minute)) in
    let hour = not_over 23 m.hour (omega (arith, is.hour)) in
    let day = not_none m.day is.first_day in
    let month = not_none m.month is.first_month in
    let last = not_over 12 m.month is.last_month in
    let year = not_over 99 m.year (omega (arith, is.year)) in
    rw (ms, minute, hour, day, month, last, year) refl

there : (m : Moment) (mark : Bool) → m.day ≤ month_days m → day_exists (with_mark m mark) ≡ true
there m mark le = grind arith

not_there : (m : Moment) (mark : Bool) → month_days m < m.day
    → day_exists (with_mark m mark) ≡ false
not_there m mark more = grind arith

wrong : (m : Moment) (mark : Bool) → m.weekday ≢ 0
    → m.weekday ≢ weekday_number (days m) + 1 → is_weekday_wrong (with_mark m mark) ≡ true
wrong m mark some other =
    let a : (m.weekday == 0) ≡ false = ne_eqb m.weekday 0 some in
    let b : (m.weekday == weekday_number (days m) + 1) ≡ false = ne_eqb _ _ other in
    rw (a, b) refl

pub range : (octets : List ℕ) (m : Moment) → Names m octets → IsOverRange m
    → verdict_of octets ≡ OutOfRange
range octets m n one =
    ap verdict_of_fields (named octets m n)
    ∙ (let out = is_over m (nat_le 128 (slice_index octets 2)) one in rw out refl)

pub day : (octets : List ℕ) (m : Moment) → Names m octets → IsWithinRange m
    → month_days m < m.day → verdict_of octets ≡ NoSuchDay
day octets m n is more =
    let mark = nat_le 128 (slice_index octets 2) in
    ap verdict_of_fields (named octets m n)
    ∙ (let out = within m mark is in
    let no = not_there m mark more in
    rw (out, no) refl)

pub weekday : (octets : List ℕ) (m : Moment) → Names m octets → IsWithinRange m
    → m.day ≤ month_days m → m.weekday ≢ 0 → m.weekday ≢ weekday_number (days m) + 1
    → verdict_of octets ≡ WrongWeekday
weekday octets m n is le some other =
    let mark = nat_le 128 (slice_index octets 2) in
    ap verdict_of_fields (named octets m n)
    ∙ (let out = within m mark is in
    let yes = there m mark le in
    let no = wrong m mark some other in
    rw (out, yes, no) refl)

-- if nothing else applies, the verdict by IV alone
by_mark : (octets : List ℕ) (m : Moment) → Names m octets → IsWithinRange m → m.day ≤ month_days m
    → (m.weekday ≡ 0) ⊎ (m.weekday ≡ weekday_number (days m) + 1)
    → verdict_of octets
    ≡ (if nat_le 128 (slice_index octets 2) then MarkedInvalid else Good (instant m))
by_mark octets m n is le name =
    let mark = nat_le 128 (slice_index octets 2) in
    ap verdict_of_fields (named octets m n)
    ∙ (let out = within m mark is in
    let yes = there m mark le in
    let right = right_day m name in
    rw (out, yes, right) refl)

pub marked : (octets : List ℕ) (m : Moment) → Names m octets → IsWithinRange m
    → m.day ≤ month_days m → (m.weekday ≡ 0) ⊎ (m.weekday ≡ weekday_number (days m) + 1)
    → 128 ≤ slice_index octets 2 → verdict_of octets ≡ MarkedInvalid
marked octets m n is le name iv =
    let mark : nat_le 128 (slice_index octets 2) ≡ true = grind arith in
    by_mark octets m n is le name ∙ rw mark refl

pub good : (octets : List ℕ) (m : Moment) → Names m octets → IsWithinRange m
    → m.day ≤ month_days m → (m.weekday ≡ 0) ⊎ (m.weekday ≡ weekday_number (days m) + 1)
    → slice_index octets 2 < 128 → verdict_of octets ≡ Good (instant m)
good octets m n is le name iv =
    let mark : nat_le 128 (slice_index octets 2) ≡ false = grind arith in
    by_mark octets m n is le name ∙ rw mark refl
