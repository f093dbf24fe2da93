-- The first line of a text, cut field by field.
use Rattle.std.proofs.Common.{◌≡◌, ◌≢◌, ℕ, ◌+◌, ◌<◌, ◌≤◌, ◌==◌, Bool, true, false, List, [], ◌∷◌}
use Rattle.std.proofs.Common.{◌++◌, length, take, drop, get_or, cond, Option, Some, None, ◌⊎◌, inl}
use Rattle.std.proofs.Common.{inr, if◌then◌else◌, refl, ap, sym, ◌∙◌, subst, append_assoc}
use Rattle.std.proofs.Common.{length-append, arith}
use Rattle.std.specs.Prelude.{position, nat_lt, slice_index, codes}
use Rattle.std.specs.List.{All, slice_split, position_or_len}
use Rattle.std.proofs.Math.Seq.{get_or-append_seam, take-append_seam}
use Rattle.std.proofs.lemmas.Bool.{cases_lt, eqb-true, false≢true, ltb-true}
use Rattle.std.proofs.lemmas.List.{drop_more, get_or-take, get_or_append_left, get_or_default}
use Rattle.std.proofs.lemmas.List.{length-take-le, take-append-drop}
use Rattle.hex.specs.Hex.{is_hex_digit}
use Rattle.std.specs.Char.{is_ascii_digit}
use Rattle.std.proofs.lemmas.Grind.{common_steps}
use Rattle.std.proofs.lemmas.List.Elements.{All-append, All-cons, All-head, All-tail, All-nil}
use Rattle.std.proofs.lemmas.List.Sums.{fails_before_first, passes_at_first, split_at_first}
use Rattle.std.proofs.lemmas.List.Splits.{slice_split_at, slice_split_first, slice_split_none}
use Rattle.std.proofs.lemmas.List.Splits.{slice_split-cons_no, length-slice_split}
use Rattle.std.specs.Str.{bytes_eq}
use Rattle.traces.specs.declared.event.Spelled.{Spelled}
use Rattle.traces.specs.Event.{event_from, event_in, valued_at, wall_at, octets_at}
use Rattle.traces.specs.Fields.{decimal_of, octets_of}
use Rattle.traces.specs.FirstLines.{IsEventBehind, IsFrontNumber, IsValued, event_behind, first_of}
use Rattle.traces.specs.FirstLines.{first_line, first_fields, later_lines, ends_field}
use Rattle.traces.specs.Trace.{lines_of}
use Rattle.traces.proofs.NumberLemmas.{decimal_digits, no_number}
use Rattle.traces.proofs.OctetLemmas.{other_octet}

-- a text has a first line
some_parts : (parts : List (List ℕ)) → 0 < length parts → parts ≡ first_of parts ∷ drop 1 parts
some_parts [] some = absurd (omega arith)
some_parts (part ∷ parts) some = refl

pub lines_first : (text : List ℕ) → lines_of text ≡ first_line text ∷ later_lines text
lines_first text =
    some_parts (lines_of text) (omega (arith, length-slice_split (λ (b : ℕ). b == 10) text))

-- octets that aren't line feeds stand in the first line
pub lines_behind : (front rest : List ℕ) → All (λ b. (b == 10) ≡ false) front
    → lines_of (front ++ rest) ≡ (front ++ first_line rest) ∷ later_lines rest
lines_behind [] rest all = lines_first rest
lines_behind (b ∷ front) rest all =
    let here : (b == 10) ≡ false = All-head (λ b. (b == 10) ≡ false) b front all in
    slice_split-cons_no (λ b. b == 10) b (front ++ rest) here
    ∙ rw (lines_behind front rest (All-tail (λ b. (b == 10) ≡ false) b front all)) refl

-- A field is an octet string without separators.

abbrev pub IsField : List ℕ → Type 0
IsField field = All (λ b. ends_field b ≡ false) field

neither : (field : List ℕ) → IsField field
    → All (λ b. (b == 32) ≡ false) field × All (λ b. (b == 10) ≡ false) field
neither field all = (λ k d lt. (apart _ (all k d lt)).0, λ k d lt. (apart _ (all k d lt)).1)
  where
    apart : (b : ℕ) → ends_field b ≡ false → ((b == 32) ≡ false) × ((b == 10) ≡ false)
    apart b none = grind arith

-- behind a field and a space the line goes on
pub field_then : (text field rest : List ℕ) → IsField field → text ≡ field ++ 32 ∷ rest
    → (first_fields text ≡ field ∷ first_fields rest) × (later_lines text ≡ later_lines rest)
field_then text field rest all is =
    let parts = neither field all in
    let front : All (λ b. (b == 10) ≡ false) (field ++ 32 ∷ []) =
    All-append (λ b. (b == 10) ≡ false) field (32 ∷ []) parts.1
    (All-cons (λ b. (b == 10) ≡ false) 32 [] refl (All-nil (λ b. (b == 10) ≡ false))) in
    let lines : lines_of text ≡ ((field ++ 32 ∷ []) ++ first_line rest) ∷ later_lines rest =
    ap lines_of (is ∙ sym (append_assoc field (32 ∷ []) rest))
    ∙ lines_behind (field ++ 32 ∷ []) rest front in (
      ap (λ ls. slice_split (λ b. b == 32) (first_of ls)) lines
          ∙ ap (slice_split (λ b. b == 32)) (append_assoc field (32 ∷ []) (first_line rest))
          ∙ slice_split_at (λ b. b == 32) field 32 (first_line rest) parts.0 refl,
      ap (drop 1) lines,
    )

-- a field ends the line
pub field_last : (text field rest : List ℕ) → IsField field → text ≡ field ++ 10 ∷ rest
    → (first_fields text ≡ field ∷ []) × (later_lines text ≡ lines_of rest)
field_last text field rest all is =
    let parts = neither field all in
    let lines : lines_of text ≡ field ∷ lines_of rest =
    ap lines_of is ∙ slice_split_at (λ b. b == 10) field 10 rest parts.1 refl in (
      ap (λ ls. slice_split (λ b. b == 32) (first_of ls)) lines
          ∙ slice_split_none (λ b. b == 32) field parts.0,
      ap (drop 1) lines,
    )

-- a field ends the text
pub field_whole : (text : List ℕ) → IsField text → (first_fields text ≡ text ∷ [])
    × (later_lines text ≡ [])
field_whole text all =
    let parts = neither text all in
    let lines : lines_of text ≡ text ∷ [] = slice_split_none (λ b. b == 10) text parts.1 in (
      ap (λ ls. slice_split (λ b. b == 32) (first_of ls)) lines
          ∙ slice_split_none (λ b. b == 32) text parts.0,
      ap (drop 1) lines,
    )

-- The place of the first octet that ends a field.

pub record EndsAt (text : List ℕ) (i : ℕ) : Type 0 where
  pub field : IsField (take i text)
  pub whole : text ≡ take i text ++ slice_index text i ∷ drop (i + 1) text
  pub here : ends_field (slice_index text i) ≡ true

pub ends_at : (text : List ℕ) (i : ℕ) → position (λ b. ends_field b) text ≡ Some i → EndsAt text i
ends_at text i found = by_case (nat_lt n (length text)) refl found
  where
    n : ℕ
    n = position_or_len (λ b. ends_field b) text

    at_first : n < length text → EndsAt text n
    at_first lt = record {
      field = λ k d m.
          let fails = fails_before_first (λ b. ends_field b) text k d
          (grind (arith, common_steps)) in
          grind (arith, common_steps);
      whole = split_at_first (λ b. ends_field b) text 0 lt;
      here = passes_at_first (λ b. ends_field b) text 0 lt;
    }

    by_case : (b : Bool) → nat_lt n (length text) ≡ b → cond b (Some n) None ≡ Some i
        → EndsAt text i
    by_case true e h = let same : n ≡ i = cc in
        subst (EndsAt text) same (at_first (ltb-true n (length text) e))
    by_case false e h = cc

pub ends_nowhere : (text : List ℕ) → position (λ b. ends_field b) text ≡ None → IsField text
ends_nowhere text none = by_case (nat_lt n (length text)) refl none
  where
    n : ℕ
    n = position_or_len (λ b. ends_field b) text

    by_case : (b : Bool) → nat_lt n (length text) ≡ b → cond b (Some n) None ≡ None → IsField text
    by_case true e h = cc
    by_case false e h = λ k d lt. fails_before_first (λ b. ends_field b) text k d
        (omega (arith, lt, beyond n (length text) e))
      where
        beyond : (a b : ℕ) → nat_lt a b ≡ false → b ≤ a
        beyond a b e = grind arith

-- what ends a field and isn't a space is a line feed
pub line_feed : (b : ℕ) → ends_field b ≡ true → b ≢ 32 → b ≡ 10
line_feed b ends other = grind arith

-- without a moment there is no event
pub no_moment : (moment : List ℕ) (fields : List (List ℕ)) → decimal_of moment ≡ None
    → event_from (moment ∷ fields) ≡ None
no_moment moment [] none = refl
no_moment moment (kind ∷ []) none = rw none refl
no_moment moment (kind ∷ text ∷ []) none = ap (λ now. valued_at now kind text) none
    ∙ unvalued (bytes_eq kind (codes "W"))
  where
    unvalued : (b : Bool) → (if b then wall_at None (decimal_of text)
        else octets_at None kind (octets_of text)) ≡ None
    unvalued true = refl
    unvalued false = refl
no_moment moment (kind ∷ text ∷ more ∷ fields) none = refl

-- with a moment it is that of the fields behind it
moment_then : (moment : List ℕ) (fields : List (List ℕ)) (now : ℕ) → decimal_of moment ≡ Some now
    → event_from (moment ∷ fields) ≡ event_behind now fields
moment_then moment [] now is = refl
moment_then moment (kind ∷ []) now is = rw is refl
moment_then moment (kind ∷ text ∷ []) now is = ap (λ o. valued_at o kind text) is
moment_then moment (kind ∷ text ∷ more ∷ fields) now is = refl

-- there is none if no number stands before the line's first space
no_event : (text : List ℕ)
    → ((field rest : List ℕ) → text ≡ field ++ 32 ∷ rest → decimal_of field ≡ None)
    → event_in (first_line text) ≡ None
no_event text none = by (position (λ b. ends_field b) text) refl
  where
    at_end : (i : ℕ) → EndsAt text i → (b : ℕ) → slice_index text i ≡ b → (is : Bool) → (b == 32)
        ≡ is
        → event_in (first_line text) ≡ None
    at_end i at b e true is =
        let whole = at.whole ∙ ap (λ d. take i text ++ d ∷ drop (i + 1) text) (e
        ∙ eqb-true b 32 is) in
        ap event_from (field_then text (take i text) (drop (i + 1) text) at.field whole).0
        ∙ no_moment (take i text) (first_fields (drop (i + 1) text))
        (none (take i text) (drop (i + 1) text) whole)
    at_end i at b e false is =
        let feed = line_feed (slice_index text i) at.here
        (λ same. false≢true (sym is ∙ ap (λ d. d == 32) (sym e ∙ same))) in
        let whole = at.whole ∙ ap (λ d. take i text ++ d ∷ drop (i + 1) text) feed in
        ap event_from (field_last text (take i text) (drop (i + 1) text) at.field whole).0

    by : (o : Option ℕ) → position (λ b. ends_field b) text ≡ o → event_in (first_line text) ≡ None
    by None e = ap event_from (field_whole text (ends_nowhere text e)).0
    by (Some i) e = at_end i (ends_at text i e) (slice_index text i) refl (slice_index text i == 32)
        refl

-- where a space stands in a text that has one behind a field
record SpaceAt (text : List ℕ) (j : ℕ) : Type 0 where
  within : j < length text
  here : slice_index text j ≡ 32

space_at : (text field rest : List ℕ) → text ≡ field ++ 32 ∷ rest → SpaceAt text (length field)
space_at text field rest whole = record {
  within =
      let len : length text ≡ length field + length (32 ∷ rest) =
      ap length whole ∙ length-append field (32 ∷ rest) in
      omega (arith, len);
  here = ap (λ t. slice_index t (length field)) whole ∙ get_or-append_seam field 32 rest 0;
}

-- no number stands in front
pub no_number_here : (text : List ℕ) → IsFrontNumber text None → event_in (first_line text) ≡ None
no_number_here text none = no_event text (λ field rest whole.
    let at = space_at text field rest whole in
    let front : take (length field) text ≡ field =
    ap (take (length field)) whole ∙ take-append_seam field (32 ∷ rest) in
    sym (ap decimal_of front)
    ∙ none (length field) (record {
      within = omega (arith, at.within);
      over =
          λ lt. ap is_ascii_digit at.here;
    }))

-- or no space stands behind it
pub no_space_here : (text : List ℕ) (now i : ℕ) → IsFrontNumber text (Some (now, i))
    → (i < length text → slice_index text i ≢ 32) → event_in (first_line text) ≡ None
no_space_here text now i is other = no_event text (λ field rest whole.
    by field rest whole (space_at text field rest whole) (cases_lt (length field) i)
    (cases_lt i (length field)))
  where
    by : (field rest : List ℕ) → text ≡ field ++ 32 ∷ rest → SpaceAt text (length field)
        → (length field < i) ⊎ (i ≤ length field) → (i < length field) ⊎ (length field ≤ i)
        → decimal_of field ≡ None
    by field rest whole at (inl before) behind =
        let len : length (take i text) ≡ i = length-take-le i text is.0.within in
        let digit = decimal_digits (take i text) now (length field) is.1
        (omega (arith, len, before)) in
        let same : slice_index (take i text) (length field) ≡ slice_index text (length field) =
        get_or-take i text (length field) 0 before in
        let odd : true ≡ false = sym digit ∙ ap is_ascii_digit (same ∙ at.here) in
        absurd (cc)
    by field rest whole at (inr least) (inl behind) =
        let same : slice_index text i ≡ slice_index field i =
        ap (λ t. slice_index t i) whole ∙ get_or_append_left field (32 ∷ rest) 0 i behind in
        no_number field i behind (sym (ap is_ascii_digit same)
        ∙ is.0.over (omega (arith, behind, at.within)))
    by field rest whole at (inr least) (inr most) =
        let same : length field ≡ i = omega (arith, least, most) in
        absurd (other (rw same at at.within) (rw same at at.here))

-- a number and a space are a moment
pub moment_here : (text : List ℕ) (now i : ℕ) → IsFrontNumber text (Some (now, i)) → i < length text
    → slice_index text i ≡ 32
    → (event_in (first_line text) ≡ event_behind now (first_fields (drop (i + 1) text)))
    × (later_lines text ≡ later_lines (drop (i + 1) text))
moment_here text now i is lt here =
    let front : List ℕ = take i text in
    let rest : List ℕ = drop (i + 1) text in
    let whole : text ≡ front ++ 32 ∷ rest =
    sym (take-append-drop i text) ∙ ap (λ t. front ++ t) (drop_more text i 0 lt
    ∙ ap (λ b. b ∷ rest) here) in
    let cut = field_then text front rest digits whole in (
      ap event_from cut.0 ∙ moment_then front (first_fields rest) now is.1,
      cut.1,
    )
  where
    apart : (b : ℕ) → is_ascii_digit b ≡ true → ends_field b ≡ false
    apart b digit = grind arith

    digits : IsField (take i text)
    digits k d lt =
        let here = decimal_digits (take i text) now k is.1 lt in
        let same : get_or (take i text) k d ≡ slice_index (take i text) k =
        get_or_default (take i text) k d 0 lt in
        apart (get_or (take i text) k d) (ap is_ascii_digit same ∙ here)

-- Behind a letter.

-- a value reaches to the end of the line: with a space in it there is no event
pub value_whole : (now : ℕ) (kind value : List ℕ)
    → event_behind now (kind ∷ slice_split (λ b. b == 32) value) ≡ valued_at (Some now) kind value
value_whole now kind value = by (nat_lt n (length value)) refl
  where
    n : ℕ
    n = position_or_len (λ b. b == 32) value

    beyond : (a b : ℕ) → nat_lt a b ≡ false → b ≤ a
    beyond a b e = grind arith

    several : (part : List ℕ) (parts : List (List ℕ)) → 0 < length parts
        → event_behind now (kind ∷ part ∷ parts) ≡ None
    several part [] some = absurd (omega arith)
    several part (p ∷ parts) some = refl

    unvalued : (w : Bool) (number : Option ℕ) (octets : Option (List ℕ)) → None ≡ number
        → None ≡ octets
        → None ≡ (if w then wall_at (Some now) number else octets_at (Some now) kind octets)
    unvalued true number octets e f = ap (wall_at (Some now)) e
    unvalued false number octets e f = ap (octets_at (Some now) kind) f

    by : (b : Bool) → nat_lt n (length value) ≡ b
        → event_behind now (kind ∷ slice_split (λ b. b == 32) value)
        ≡ valued_at (Some now) kind value
    by true e =
        let lt : n < length value = ltb-true n (length value) e in
        let at : (slice_index value n == 32) ≡ true = passes_at_first (λ b. b == 32) value 0 lt in
        let space : slice_index value n ≡ 32 = eqb-true _ 32 at in
        let first = slice_split_first (λ b. b == 32) value 0 lt in
        let rest : List ℕ = drop (n + 1) value in
        let more : 0 < length (slice_split (λ b. b == 32) rest) =
        omega (arith, length-slice_split (λ (b : ℕ). b == 32) rest) in
        ap (λ parts. event_behind now (kind ∷ parts)) first ∙ several (take n value) _ more
        ∙ unvalued (bytes_eq kind (codes "W")) (decimal_of value) (octets_of value)
        (sym (no_number value n lt (ap is_ascii_digit space)))
        (sym (other_octet value n lt (ap is_hex_digit space)))
    by false e =
        let all = slice_split_none (λ b. b == 32) value
        (λ k d lt. fails_before_first (λ b. b == 32) value k d
        (omega (arith, lt, beyond n (length value) e))) in
        ap (λ parts. event_behind now (kind ∷ parts)) all

-- a letter, a space and a value
pub value_here : (now : ℕ) (text value : List ℕ) (rest : List (List ℕ)) → 2 ≤ length text
    → slice_index text 1 ≡ 32 → slice_split (λ b. b == 10) (drop 2 text) ≡ value ∷ rest
    → ends_field (slice_index text 0) ≡ false
    → (event_behind now (first_fields text) ≡ valued_at (Some now) (slice_index text 0 ∷ []) value)
    × (later_lines text ≡ rest)
value_here now [] value rest le space lines other = absurd (omega (arith, le))
value_here now (kind ∷ []) value rest le space lines other = absurd (omega (arith, le))
value_here now (kind ∷ b ∷ more) value rest le space lines other =
    let letter : IsField (kind ∷ []) =
    All-cons (λ d. ends_field d ≡ false) kind [] other (All-nil (λ d. ends_field d ≡ false)) in
    let cut = field_then (kind ∷ b ∷ more) (kind ∷ []) more letter
    (ap (λ d. kind ∷ d ∷ more) space) in
    let fields = cut.0 ∙ ap (λ ls. (kind ∷ []) ∷ slice_split (λ d. d == 32) (first_of ls)) lines in
    (ap (event_behind now) fields ∙ value_whole now (kind ∷ []) value, cut.1 ∙ ap (drop 1) lines)

-- behind a moment and two separators there is no event
pub no_letter : (now : ℕ) (text : List ℕ) → 0 < length text → ends_field (slice_index text 0) ≡ true
    → event_behind now (first_fields text) ≡ None
no_letter now [] some ends = absurd (omega (arith, some))
no_letter now (kind ∷ more) some ends = by (kind == 32) refl
  where
    valued : (text : List ℕ) (octets : Option (List ℕ)) → octets_at (Some now) [] octets ≡ None
    valued text None = refl
    valued text (Some octets) = refl

    nothing : (fields : List (List ℕ)) → event_behind now ([] ∷ fields) ≡ None
    nothing [] = refl
    nothing (text ∷ []) = valued text (octets_of text)
    nothing (text ∷ more ∷ fields) = refl

    by : (b : Bool) → (kind == 32) ≡ b → event_behind now (first_fields (kind ∷ more)) ≡ None
    by true is =
        let none : IsField [] = All-nil (λ d. ends_field d ≡ false) in
        let cut =
        field_then (kind ∷ more) [] more none (ap (λ d. d ∷ more) (eqb-true kind 32 is)) in
        ap (event_behind now) cut.0 ∙ nothing (first_fields more)
    by false is =
        let none : IsField [] = All-nil (λ d. ends_field d ≡ false) in
        let feed = line_feed kind ends (λ same. false≢true (sym is ∙ ap (λ d. d == 32) same)) in
        let cut = field_last (kind ∷ more) [] more none (ap (λ d. d ∷ more) feed) in
        ap (event_behind now) cut.0

-- nor if what stands behind the letter isn't one
pub no_value_here : (now : ℕ) (text value : List ℕ) (rest : List (List ℕ)) → 2 ≤ length text
    → slice_index text 1 ≡ 32 → slice_split (λ b. b == 10) (drop 2 text) ≡ value ∷ rest
    → valued_at (Some now) (slice_index text 0 ∷ []) value ≡ None
    → event_behind now (first_fields text) ≡ None
no_value_here now text value rest le space lines none = by (ends_field (slice_index text 0)) refl
  where
    by : (b : Bool) → ends_field (slice_index text 0) ≡ b → event_behind now (first_fields text)
        ≡ None
    by true is = no_letter now text (omega (arith, le)) is
    by false is = (value_here now text value rest le space lines is).0 ∙ none

-- what a letter, a space and a value are is what they are behind a moment
pub valued_behind : (now : ℕ) (text : List ℕ) (result : Option Spelled) → 2 ≤ length text
    → slice_index text 1 ≡ 32
    → IsValued now (slice_index text 0) (drop 2 text) result → IsEventBehind now text result
valued_behind now text None le space is =
    no_value_here now text (first_line (drop 2 text)) (later_lines (drop 2 text)) le space
    (lines_first (drop 2 text)) is
valued_behind now text (Some event) le space is =
    let here = value_here now text (first_line (drop 2 text)) (later_lines (drop 2 text)) le space
    (lines_first (drop 2 text)) is.1 in
    (here.0 ∙ is.0, here.1 ∙ is.2)
