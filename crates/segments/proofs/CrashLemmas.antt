-- What a write and a sync do to the text of a file, and to what a crash may leave of it.
use Rattle.std.proofs.Common.{◌≡◌, inl, inr, ℕ, ◌+◌, ◌-◌, ◌<◌, ◌≤◌, true, false, List, [], ◌∷◌}
use Rattle.std.proofs.Common.{◌++◌, length, get_or, take, slice_index, sym, ap, ◌∙◌, subst, lit<}
use Rattle.std.proofs.Common.{arith, Result, Ok, Err, OnOk, is_ok}
use Rattle.std.proofs.lemmas.Bool.{cases_lt}
use Rattle.std.proofs.lemmas.List.{append-nil, ext_get_or, get_or-take, get_or_append_left}
use Rattle.std.proofs.lemmas.List.{get_or-append_right, length-take-le, length-append, get_or_past}
use Rattle.sqlite_disk.specs.Disk.{Holds, Torn, Mixed, Cut, Follows, Only}
use Rattle.segments.specs.Crash.{HasAt, HasLength, BeginsWith, HasNoOther, IsBlankFrom, IsShut}
use Rattle.segments.specs.Crash.{IsLong}
use Rattle.segments.specs.Crash.{IsWholeIfOpen}
use Rattle.segments.specs.Crashes.{AreShutOr}
use Rattle.segments.specs.Starts.{IsBlank}
use Rattle.segments.specs.Written.{text_in}

-- Octets of a text, of which a part is held

pub length_text : (at : ℕ) (file page : List ℕ) → at ≤ length file → length (text_in at file page)
    ≡ at + length page
length_text at file page le =
    length-append (take at file) page ∙ ap (λ (n : ℕ). n + length page) (length-take-le at file le)

pub text_before : (at : ℕ) (file page : List ℕ) (i : ℕ) → at ≤ length file → i < at
    → slice_index (text_in at file page) i ≡ slice_index file i
text_before at file page i le lt =
    get_or_append_left (take at file) page 0 i (omega (arith, length-take-le at file le, lt))
    ∙ get_or-take at file i 0 lt

pub text_held : (at : ℕ) (file page : List ℕ) (i : ℕ) → at ≤ length file → at ≤ i
    → slice_index (text_in at file page) i ≡ slice_index page (i - at)
text_held at file page i le lt = get_or-append_right (take at file) page at i 0
    (length-take-le at file le) lt

-- A write below the end

pub written_length : (at n : ℕ) (old new : List ℕ) → Torn at n old new → at + n ≤ length old
    → length new ≡ length old
written_length at n old new torn le = omega (arith, torn.no_shorter, torn.no_longer, le)

pub written_text : (at : ℕ) (old new page : List ℕ) → Torn at (length page) old new
    → at + length page ≤ length old
    → Holds new at page → text_in (at + length page) new [] ≡ text_in at old page
written_text at old new page torn le holds =
    append-nil (take (at + length page) new) ∙
    ext_get_or 0 (take (at + length page) new) (text_in at old page)
    (long ∙ sym (length_text at old page (omega (arith, le))))
    (λ i lt. by i (omega (arith, lt, long)))
  where
    same : length new ≡ length old
    same = written_length at (length page) old new torn le

    long : length (take (at + length page) new) ≡ at + length page
    long = length-take-le (at + length page) new (omega (arith, same, le))

    by : (i : ℕ) → i < at + length page → get_or (take (at + length page) new) i 0
        ≡ slice_index (text_in at old page) i
    by i lt = get_or-take (at + length page) new i 0 lt ∙ (elim (cases_lt i at) [
      | inl before ↦ torn.below i (omega (arith, before, le)) before
          ∙ sym (text_before at old page i (omega (arith, le)) before)
      | inr behind ↦
          ap (λ (j : ℕ). slice_index new j) (let e : i ≡ at + (i - at) = omega (arith, behind) in e)
          ∙ holds.each (i - at) (omega (arith, lt, behind))
          ∙ sym (text_held at old page i (omega (arith, le)) behind)
    ])

pub written_blank : (at n : ℕ) (old new : List ℕ) → Torn at n old new → at + n ≤ length old
    → IsBlankFrom at old → IsBlankFrom (at + n) new
written_blank at n old new torn le blank i from = elim (cases_lt i (length old)) [
  | inl within ↦ torn.above i within from ∙ blank i (omega (arith, from))
  | inr beyond ↦ get_or_past new i 0 (omega (arith, beyond, written_length at n old new torn le))
]

-- and what a crash leaves behind it

pub length_kept : (at n : ℕ) (old new : List ℕ → Type 0) (size : ℕ) → Follows (Torn at n) old new
    → at + n ≤ size
    → HasLength old size → HasLength new size
length_kept at n old new size follows le long c is =
    let w = follows c is in
    let e : length w.0 ≡ size = long w.0 w.1 in
    written_length at n w.0 c w.2 (omega (arith, e, le)) ∙ e

pub beginning_kept : (at n : ℕ) (old new : List ℕ → Type 0) (size : ℕ) → Follows (Torn at n) old new
    → at + n ≤ size
    → HasLength old size → (m : ℕ) (text : List ℕ) → m ≤ at → BeginsWith old m text
    → BeginsWith new m text
beginning_kept at n old new size follows le long m text most begins c is i lt =
    let w = follows c is in
    let e : length w.0 ≡ size = long w.0 w.1 in
    w.2.below i (omega (arith, e, le, most, lt)) (omega (arith, most, lt)) ∙ begins w.0 w.1 i lt

pub no_other_kept : (at : ℕ) (file page text : List ℕ) (old new : List ℕ → Type 0)
    → Follows (Mixed at page) old new
    → at + length page ≤ length file → HasLength old (length file) → HasAt at page text
    → HasNoOther old text → HasNoOther new text
no_other_kept at file page text old new follows le long has others c is i some =
    elim (cases_lt i (length file)) [
      | inl within ↦ elim (cases_lt i at) [
        | inl before ↦ from_old (w.2.torn.below i (omega (arith, e, within)) before)
        | inr behind ↦ elim (cases_lt i (at + length page)) [
          | inl here ↦
              elim (w.2.each (i - at) (omega (arith, here, behind))
              (omega (arith, e, within, behind))) [
                | inl same ↦
                    from_old (subst (λ (j : ℕ). slice_index c j ≡ slice_index w.0 j) (place behind)
                    same)
                | inr put ↦
                    subst (λ (j : ℕ). slice_index c j ≡ slice_index page (i - at)) (place behind)
                    put
                    ∙ sym (has (i - at) (omega (arith, here, behind)))
                    ∙ ap (λ (j : ℕ). slice_index text j) (place behind)
              ]
          | inr over ↦ from_old (w.2.torn.above i (omega (arith, e, within)) over)
        ]
      ]
      | inr out ↦ absurd (some (get_or_past c i 0
          (omega (
            arith,
            out,
            written_length at (length page) w.0 c w.2.torn (omega (arith, e, le)),
            e,
          ))))
    ]
  where
    w : (d : List ℕ) × old d × Mixed at page d c
    w = follows c is

    e : length w.0 ≡ length file
    e = long w.0 w.1

    place : at ≤ i → at + (i - at) ≡ i
    place le = omega (arith, le)

    from_old : slice_index c i ≡ slice_index w.0 i → slice_index c i ≡ slice_index text i
    from_old same = same ∙ others w.0 w.1 i (λ zero. some (same ∙ zero))

-- A sync

pub synced_length : (file : List ℕ) (new : List ℕ → Type 0) (size : ℕ) → Only file new → length file
    ≡ size → HasLength new size
synced_length file new size only is c left = ap length (only c left) ∙ is

pub synced_begins : (file : List ℕ) (new : List ℕ → Type 0) (stored : ℕ) → Only file new
    → stored ≤ length file
    → BeginsWith new stored (text_in stored file [])
synced_begins file new stored only le c left i lt =
    ap (λ (l : List ℕ). slice_index l i) (only c left) ∙ sym (text_before stored file [] i le lt)

pub synced_no_other : (file : List ℕ) (new : List ℕ → Type 0) (stored : ℕ) → Only file new
    → stored ≤ length file
    → IsBlankFrom stored file → HasNoOther new (text_in stored file [])
synced_no_other file new stored only le blank c left i some = elim (cases_lt i stored) [
  | inl before ↦ same ∙ sym (text_before stored file [] i le before)
  | inr behind ↦ absurd (some (same ∙ blank i behind))
]
  where
    same : slice_index c i ≡ slice_index file i
    same = ap (λ (l : List ℕ). slice_index l i) (only c left)

-- A file that is shut

-- what is blank behind that was blank before
blank_before : (d c : List ℕ) → Mixed 0 (45 ∷ []) d c → IsBlank c → IsBlank d
blank_before [] c mixed blank = (omega arith, λ mark. let no : 0 ≡ 45 = mark in omega (arith, no))
blank_before (x ∷ l) c mixed blank = elim (mixed.each 0 (lit< tt) (omega arith)) [
  | inl kept ↦ (omega (arith, mixed.torn.no_shorter, blank.0), λ mark. blank.1 (kept ∙ mark))
  | inr put ↦ absurd (blank.1 put)
]

pub shut_old : (old new : List ℕ → Type 0) → Follows (Mixed 0 (45 ∷ [])) old new
    → AreShutOr new old
shut_old old new follows c is = elim (cases_lt 1 (length c)) [
  | inl long ↦ elim (w.2.each 0 (lit< tt) (some long)) [
    | inl kept ↦ inr (subst old (ext_get_or 0 w.0 c (len long) (same long (sym kept))) w.1)
    | inr put ↦ inl (inr put, λ blank. absurd (blank.1 put))
  ]
  | inr short ↦ inl (
    inl (omega (arith, short)),
    λ blank. (w.0, w.1, blank_before w.0 c w.2 blank),
  )
]
  where
    w : (d : List ℕ) × old d × Mixed 0 (45 ∷ []) d c
    w = follows c is

    torn : Torn 0 1 w.0 c
    torn = w.2.torn

    some : 1 < length c → 0 < length w.0
    some long = elim (cases_lt 0 (length w.0)) [
      | inl lt ↦ lt
      | inr none ↦ absurd (omega (arith, torn.no_longer, none, long))
    ]

    len : 1 < length c → length w.0 ≡ length c
    len long = omega (arith, torn.no_shorter, torn.no_longer, some long)

    same : 1 < length c → get_or w.0 0 0 ≡ get_or c 0 0 → (i : ℕ) → i < length w.0
        → get_or w.0 i 0 ≡ get_or c i 0
    same long at_first i lt = elim (cases_lt i 1) [
      | inl zero ↦ let e : 0 ≡ i = omega (arith, zero) in
          subst (λ (j : ℕ). get_or w.0 j 0 ≡ get_or c j 0) e at_first
      | inr more ↦ sym (torn.above i lt more)
    ]

pub all_shut : (outcomes these : List ℕ → Type 0) → IsShut outcomes → AreShutOr outcomes these
all_shut outcomes these shut c is =
    inl (inr (shut c is), λ blank. absurd (blank.1 (shut c is)))

pub cut_long : (n : ℕ) (file : List ℕ) (old new : List ℕ → Type 0) → Only file old → 0 < length file
    → 0 < n
    → Follows (Cut n) old new → IsLong new
cut_long n file old new only some up follows c is =
    let w = follows c is in
    let e : length w.0 ≡ length file = ap length (only w.0 w.1) in
    omega (arith, w.2.no_shorter, e, some, up)

pub cut_shut : (n : ℕ) (file : List ℕ) (old new : List ℕ → Type 0) → Only file old → 0 < length file
    → 0 < n
    → slice_index file 0 ≡ 45 → Follows (Cut n) old new → IsShut new
cut_shut n file old new only some up first follows c is =
    let w = follows c is in
    let e : length w.0 ≡ length file = ap length (only w.0 w.1) in
    w.2.below 0 (omega (arith, e, some)) up ∙ ap (λ (l : List ℕ). slice_index l 0) (only w.0 w.1)
    ∙ first

pub held_first : (file bytes : List ℕ) → Holds file 0 bytes → 0 < length bytes → slice_index file 0
    ≡ slice_index bytes 0
held_first file bytes holds some = holds.each 0 some

pub held_some : (file bytes : List ℕ) → Holds file 0 bytes → 0 < length bytes → 0 < length file
held_some file bytes holds some = omega (arith, holds.within, some)

pub shut_now : (file : List ℕ) (new : List ℕ → Type 0) → IsShut new → IsWholeIfOpen new file
shut_now file new shut c is first = let never : 45 ≡ 116 = sym (shut c is) ∙ first in
    absurd (omega (arith, never))

-- a write behind the first octet

pub behind_long : (at n : ℕ) (old new : List ℕ → Type 0) → Follows (Torn at n) old new → IsLong old
    → IsLong new
behind_long at n old new follows long c is =
    let w = follows c is in omega (arith, w.2.no_shorter, long w.0 w.1)

pub behind_shut : (at n : ℕ) (old new : List ℕ → Type 0) → Follows (Torn at n) old new → 0 < at
    → IsLong old → IsShut old
    → IsShut new
behind_shut at n old new follows later long shut c is =
    let w = follows c is in w.2.below 0 (long w.0 w.1) later ∙ shut w.0 w.1

-- a write at the end

pub behind_written : (at : ℕ) (old new page : List ℕ) → length old ≡ at
    → Torn at (length page) old new → Holds new at page
    → new ≡ old ++ page
behind_written at old new page end torn holds =
    ext_get_or 0 new (old ++ page) len
    (λ i lt. by i (omega (arith, lt, len, length-append old page, end)))
  where
    len : length new ≡ length (old ++ page)
    len = omega (arith, torn.no_longer, holds.within, length-append old page, end)

    by : (i : ℕ) → i < at + length page → get_or new i 0 ≡ get_or (old ++ page) i 0
    by i lt = elim (cases_lt i at) [
      | inl before ↦ torn.below i (omega (arith, before, end)) before
          ∙ sym (get_or_append_left old page 0 i (omega (arith, before, end)))
      | inr behind ↦
          ap (λ (j : ℕ). get_or new j 0) (let e : i ≡ at + (i - at) = omega (arith, behind) in e)
          ∙ holds.each (i - at) (omega (arith, lt, behind))
          ∙ sym (get_or-append_right old page at i 0 end behind)
    ]

pub behind_before : (at n : ℕ) (old new : List ℕ) → length old ≡ at → Torn at n old new
    → (held : List ℕ)
    → text_in at new held ≡ text_in at old held
behind_before at n old new end torn held =
    ap (λ (l : List ℕ). l ++ held) (ext_get_or 0 (take at new) (take at old)
    (length-take-le at new (omega (arith, torn.no_shorter, end))
    ∙ sym (length-take-le at old (omega (arith, end))))
    (λ i lt. by i (omega (arith, lt, length-take-le at new (omega (arith, torn.no_shorter, end))))))
  where
    by : (i : ℕ) → i < at → get_or (take at new) i 0 ≡ get_or (take at old) i 0
    by i lt =
        get_or-take at new i 0 lt ∙ torn.below i (omega (arith, lt, end)) lt
        ∙ sym (get_or-take at old i 0 lt)

-- A call that answered Ok

pub ok_of : {T E U F P : Type 0} (a : Result T E) (b : Result U F) (x : T) → is_ok a ≡ is_ok b
    → a ≡ Ok x → OnOk b P → P
ok_of a (Ok y) x same is h = h
ok_of a (Err e) x same is h =
    let on : is_ok a ≡ true = ap is_ok is in let never : true ≡ false = sym on ∙ same in absurd (cc)

pub on_ok : {T E P : Type 0} (r : Result T E) → P → OnOk r P
on_ok (Ok x) p = p
on_ok (Err e) p = tt
