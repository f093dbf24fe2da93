-- What each line of a trace is, and what the lines of a text say.
use Rattle.std.proofs.Common.{◌≡◌, ◌≤◌, ℕ, ◌+◌, ◌&&◌, ◌==◌, not, Bool, true, false, List, [], ◌∷◌}
use Rattle.std.proofs.Common.{◌++◌, length, map, Option, Some, None, if◌then◌else◌, inl, inr, refl}
use Rattle.std.proofs.Common.{sym, ap, subst, ◌∙◌, arith}
use Rattle.std.proofs.lemmas.Bool.{and_parts, eqb-true}
use Rattle.std.proofs.lemmas.List.Splits.{join_with_byte-slice_split}
use Rattle.std.specs.Char.{is_ascii_digit}
use Rattle.std.specs.List.{list_all, join_with_byte}
use Rattle.std.specs.Option.{is_none}
use Rattle.std.specs.Prelude.{codes}
use Rattle.gateway.specs.Entries.{event_of as entry_event}
use Rattle.gateway.specs.declared.entries.Entry.{Entry}
use Rattle.traces.specs.Event.{Event, line, opening, received, cut, tick, wall, event_of, bare_at}
use Rattle.traces.specs.Event.{octets_at, wall_at, event_from, event_in}
use Rattle.traces.specs.Fields.{decimal_of, octets_of}
use Rattle.traces.specs.LineByLine.{IsPassedOver, IsGood, IsFirstWrong, AreSaid}
use Rattle.traces.specs.Progress.{came, events_in}
use Rattle.traces.specs.Saying.{AreDigitsOf, AreValuesOf, Says, letter_of, moment_in}
use Rattle.traces.specs.Trace.{is_skipped, is_wrong, logged, first_wrong}
use Rattle.traces.proofs.ProgressLemmas.{came_entry}
use Rattle.traces.proofs.SayingLemmas.{line_says}

-- ---- a line that says an event logs it

fields_log : (moment : List ℕ) (event : Event) (values : List (List ℕ))
    → AreDigitsOf moment (moment_in event) → AreValuesOf event values
    → event_from (moment ∷ letter_of event ∷ values) ≡ Some event
fields_log moment (tick now) values digits none =
    ap (λ (v : List (List ℕ)). event_from (moment ∷ codes "T" ∷ v)) none
    ∙ ap (λ (o : Option ℕ). bare_at o (codes "T")) digits.are
fields_log moment (opening now) values digits none =
    ap (λ (v : List (List ℕ)). event_from (moment ∷ codes "O" ∷ v)) none
    ∙ ap (λ (o : Option ℕ). bare_at o (codes "O")) digits.are
fields_log moment (cut now) values digits none =
    ap (λ (v : List (List ℕ)). event_from (moment ∷ codes "C" ∷ v)) none
    ∙ ap (λ (o : Option ℕ). bare_at o (codes "C")) digits.are
fields_log moment (line now octets) values digits one =
    ap (λ (v : List (List ℕ)). event_from (moment ∷ codes "S" ∷ v)) one.1
    ∙ ap (λ (o : Option ℕ). octets_at o (codes "S") (octets_of one.0)) digits.are
    ∙ ap (octets_at (Some now) (codes "S")) one.2.are
fields_log moment (received now octets) values digits one =
    ap (λ (v : List (List ℕ)). event_from (moment ∷ codes "R" ∷ v)) one.1
    ∙ ap (λ (o : Option ℕ). octets_at o (codes "R") (octets_of one.0)) digits.are
    ∙ ap (octets_at (Some now) (codes "R")) one.2.are
fields_log moment (wall now number) values digits one =
    ap (λ (v : List (List ℕ)). event_from (moment ∷ codes "W" ∷ v)) one.1
    ∙ ap (λ (o : Option ℕ). wall_at o (decimal_of one.0)) digits.are
    ∙ ap (wall_at (Some now)) one.2.are

-- it begins with a digit
digits_first : (moment rest : List ℕ) → 1 ≤ length moment → list_all is_ascii_digit moment ≡ true
    → is_skipped (moment ++ rest) ≡ false
digits_first [] rest some all = absurd (omega arith)
digits_first (d ∷ ds) rest some all =
    let parts = and_parts (is_ascii_digit d) (list_all is_ascii_digit ds) all in
    digit d parts.0
  where
    digit : (b : ℕ) → is_ascii_digit b ≡ true → (b == 35) ≡ false
    digit b is = grind arith

says_kept : (text : List ℕ) (event : Event) → Says text event → is_skipped text ≡ false
says_kept text event s =
    let joined : join_with_byte 32 (s.moment ∷ letter_of event ∷ s.values) ≡ text =
    ap (join_with_byte 32) (sym s.fields) ∙ join_with_byte-slice_split 32 text in
    subst (λ t. is_skipped t ≡ false) joined
    (digits_first s.moment (32 ∷ join_with_byte 32 (letter_of event ∷ s.values)) s.digits.some
    s.digits.all)

says_event : (text : List ℕ) (event : Event) → Says text event → event_in text ≡ Some event
says_event text event s =
    ap event_from s.fields ∙ fields_log s.moment event s.values s.digits s.valued

pub says_logged : (text : List ℕ) (event : Event) → Says text event → logged text ≡ Some event
says_logged text event s =
    ap (λ (b : Bool). if b then None else event_in text) (says_kept text event s)
    ∙ says_event text event s

-- ---- what a line is

skipped_is : (text : List ℕ) → is_skipped text ≡ true → IsPassedOver text
skipped_is [] is = inl refl
skipped_is (b ∷ rest) is = inr (rest, ap (λ (c : ℕ). c ∷ rest) (eqb-true b 35 is))

is_skipped_over : (text : List ℕ) → IsPassedOver text → is_skipped text ≡ true
is_skipped_over text is = elim is [
  | inl none ↦ ap is_skipped none
  | inr comment ↦ ap is_skipped comment.1
]

wrong_by : (text : List ℕ) (b : Bool) (o : Option Event) → is_skipped text ≡ b
    → event_in text ≡ o → is_wrong text ≡ (not b && is_none o)
wrong_by text b o skipped event = rw (skipped, event) refl

good_is_right : (text : List ℕ) → IsGood text → is_wrong text ≡ false
good_is_right text good = elim good [
  | inl over ↦ wrong_by text true (event_in text) (is_skipped_over text over) refl
  | inr said ↦
      wrong_by text false (Some said.0) (says_kept text said.0 said.1)
      (says_event text said.0 said.1)
]

wrong_is : (text : List ℕ) → is_wrong text ≡ true → IsGood text → ⊥
wrong_is text wrong good = let right = good_is_right text good in cc

-- it is passed over, or logs an event and says it
pub data Kind (text : List ℕ) : Type 0 where
  over : is_skipped text ≡ true → Kind text
  event : (e : Event) → is_skipped text ≡ false → event_in text ≡ Some e → Kind text

kind_of : (text : List ℕ) → is_wrong text ≡ false → Kind text
kind_of text right = by (is_skipped text) (event_in text) refl refl
  where
    by : (b : Bool) (o : Option Event) → is_skipped text ≡ b → event_in text ≡ o → Kind text
    by true o skipped some = over skipped
    by false (Some e) skipped some = event e skipped some
    by false None skipped some = let wrong = wrong_by text false None skipped some in cc

says_it : (text : List ℕ) (e : Event) → is_skipped text ≡ false → event_in text ≡ Some e
    → Says text e
says_it text e kept some =
    line_says text e (ap (λ (b : Bool). if b then None else event_in text) kept ∙ some)

right_is_good : (text : List ℕ) → is_wrong text ≡ false → IsGood text
right_is_good text right = elim (kind_of text right) [
  | over skipped ↦ inl (skipped_is text skipped)
  | event e kept some ↦ inr (e, says_it text e kept some)
]

-- ---- lines

pub first_is : (first : ℕ) (lines : List (List ℕ)) (number : ℕ)
    → first_wrong first lines ≡ Some number → IsFirstWrong first lines number
first_is first [] number e = cc
first_is first (l ∷ ls) number e =
    by (is_wrong l) refl e (first_is (first + 1) ls number)
  where
    by : (b : Bool) → is_wrong l ≡ b → (if b then Some first else first_wrong (first + 1) ls)
        ≡ Some number
        → (first_wrong (first + 1) ls ≡ Some number → IsFirstWrong (first + 1) ls number)
        → IsFirstWrong first (l ∷ ls) number
    by true wrong same rest =
        let here : first ≡ number = cc in record {
          before = [];
          line = l;
          behind = ls;
          are = refl;
          counted = omega arith;
          good = tt;
          wrong = wrong_is l wrong;
        }
    by false right same rest =
        let later = rest same in record {
          before = l ∷ later.before;
          line = later.line;
          behind = later.behind;
          are = ap (λ (rest : List (List ℕ)). l ∷ rest) later.are;
          counted = let at = later.counted in omega arith;
          good = (right_is_good l right, later.good);
          wrong = later.wrong;
        }

pub are_said : (first : ℕ) (lines : List (List ℕ)) → first_wrong first lines ≡ None
    → AreSaid lines (events_in lines)
are_said first [] e = refl
are_said first (l ∷ ls) e = by (is_wrong l) refl e (are_said (first + 1) ls)
  where
    line_said : Kind l → AreSaid ls (events_in ls) → AreSaid (l ∷ ls) (events_in (l ∷ ls))
    line_said kind rest = elim kind [
      | over skipped ↦
          let same : events_in ls ≡ events_in (l ∷ ls) = rw skipped refl in
          inl (skipped_is l skipped, subst (AreSaid ls) same rest)
      | event e kept some ↦
          let same : events_in (l ∷ ls) ≡ came e ∷ events_in ls = rw (kept, some) refl in
          inr (e, events_in ls, says_it l e kept some, same, rest)
    ]

    by : (b : Bool) → is_wrong l ≡ b → (if b then Some first else first_wrong (first + 1) ls) ≡ None
        → (first_wrong (first + 1) ls ≡ None → AreSaid ls (events_in ls))
        → AreSaid (l ∷ ls) (events_in (l ∷ ls))
    by true wrong same rest = cc
    by false right same rest = line_said (kind_of l right) (rest same)

-- entries as they stand in a log
pub entries_came : (entries : List Entry)
    → map came (map event_of entries) ≡ map entry_event entries
entries_came [] = refl
entries_came (e ∷ es) = rw (came_entry e, entries_came es) refl
