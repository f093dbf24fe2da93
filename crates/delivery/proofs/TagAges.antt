-- The tag of each time of the calendar is good, and how old it is.
use Rattle.std.proofs.Common.{◌≡◌, ℕ, ◌+◌, ◌-◌, ◌<◌, ◌≤◌, List, [], ◌∷◌, ◌++◌, length, drop}
use Rattle.std.proofs.Common.{refl, ap, sym, ◌∙◌, arith, rules}
use Rattle.std.specs.Prelude.{Some, None}
use Rattle.std.proofs.lemmas.List.{length-append}
use Rattle.elements.specs.Moments.{Moment, Exists}
use Rattle.elements.specs.TimeTag.{verdict_of}
use Rattle.elements.specs.declared.tag.Verdict.TheVariants.{Good}
use Rattle.command.specs.Numbers.{Numbers, command_with}
use Rattle.command.specs.Standard.{IsFresh, tag_of}
use Rattle.delivery.specs.Ages.{CalendarTime, IsOfCalendar, since_1970, tag_octets}

abbrev pub moment_of : CalendarTime → Moment
moment_of t = record {
  year = t.year;
  month = t.month;
  day = t.day;
  weekday = t.weekday;
  hour = t.hour;
  minute = t.minute;
  millisecond = t.millisecond;
}

below : (n m : ℕ) → n ≤ m → n < m + 1
below n m h = omega (arith, h)

pub exists : (t : CalendarTime) → IsOfCalendar t → Exists (moment_of t)
exists t is = record {
  year = below t.year 99 is.year;
  first_month = is.month.0;
  last_month = is.month.1;
  first_day = is.day.0;
  last_day = is.day.2;
  day_bits = below t.day 31 is.day.1;
  weekday = is.weekday.1;
  weekday_bits = below t.weekday 7 is.weekday.0;
  hour = below t.hour 23 is.hour;
  minute = below t.minute 59 is.minute;
  millisecond = below t.millisecond 59_999 is.millisecond;
}

drop_all : (a b : List ℕ) → drop (length a) (a ++ b) ≡ b
drop_all [] b = refl
drop_all (x ∷ a) b = drop_all a b

last_seven : (a b : List ℕ) → length b ≡ 7 → drop (length (a ++ b) - 7) (a ++ b) ≡ b
last_seven a b seven =
    let all : length (a ++ b) ≡ length a + length b = length-append a b in
    let left : length (a ++ b) - 7 ≡ length a = omega (arith, all, seven) in
    ap (λ (n : ℕ). drop n (a ++ b)) left ∙ drop_all a b

pub tag_is : (kind : ℕ) (n : Numbers) (element : List ℕ) (t : CalendarTime)
    → tag_of (command_with kind n (element ++ tag_octets t)) ≡ tag_octets t
tag_is kind n element t = last_seven (command_with kind n element) (tag_octets t) refl

module _ (t : CalendarTime) (good : verdict_of (tag_octets t) ≡ Good (since_1970 t))
    (kind : ℕ) (n : Numbers) (element : List ℕ) (most clock : ℕ) where
  abbrev whole : List ℕ
  whole = command_with kind n (element ++ tag_octets t)

  stands : verdict_of (tag_of whole) ≡ Good (since_1970 t)
  stands = ap (λ (xs : List ℕ). verdict_of xs) (tag_is kind n element t) ∙ good

  pub near : clock ≤ since_1970 t + most → since_1970 t ≤ clock + most
      → IsFresh most (Some clock) whole
  near not_old not_ahead = record {
    instant = since_1970 t;
    good = stands;
    clock = clock;
    known = refl;
    not_old = not_old;
    not_ahead = not_ahead;
  }

  one_instant : (a b : ℕ) → Good a ≡ Good b → a ≡ b
  one_instant a b e = cc

  one_clock : (a b : ℕ) → Some a ≡ Some b → a ≡ b
  one_clock a b e = cc

  apart : (a b c d : ℕ) → a ≡ c → b ≡ d → b + most < a → c ≤ d + most → ⊥
  apart a b c d e f far close = omega (arith, e, f, far, close)

  pub too_old : since_1970 t + most < clock → IsFresh most (Some clock) whole → ⊥
  too_old far f =
      apart clock (since_1970 t) f.clock f.instant (one_clock clock f.clock f.known)
      (one_instant (since_1970 t) f.instant (sym stands ∙ f.good)) far f.not_old

  pub too_new : clock + most < since_1970 t → IsFresh most (Some clock) whole → ⊥
  too_new far f =
      apart (since_1970 t) clock f.instant f.clock
      (one_instant (since_1970 t) f.instant (sym stands ∙ f.good))
      (one_clock clock f.clock f.known) far f.not_ahead

pub no_wall : (most : ℕ) (xs : List ℕ) → IsFresh most None xs → ⊥
no_wall most xs f = none f.clock f.known
  where
    none : (clock : ℕ) → None ≡ Some clock → ⊥
    none clock e = search (rules, e)
