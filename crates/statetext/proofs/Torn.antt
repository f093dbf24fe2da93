-- What a crash leaves of a write, and what doesn't look like that.
use Rattle.std.proofs.Common.{◌≡◌, ◌≢◌, ◌∙◌, inl, inr, ℕ, zero, suc, ◌+◌, ◌-◌, ◌^◌, ◌<◌, ◌≤◌, Bool}
use Rattle.std.proofs.Common.{true, false, cond, not, ◌&&◌, ◌||◌, List, [], ◌∷◌, ◌++◌, length, take}
use Rattle.std.proofs.Common.{drop, get_or, slice_index, Option, Some, None, Ok, refl, sym, ap, subst}
use Rattle.std.proofs.Common.{arith, append_assoc, length-append, nat_lt}
use Rattle.std.proofs.lemmas.Bool.{cases_lt}
use Rattle.std.proofs.lemmas.Bool.Decides.{eqb_tells}
use Rattle.std.proofs.lemmas.List.{append-nil, ext_get_or, get_or-drop, get_or-take}
use Rattle.std.proofs.lemmas.List.{get_or_append_left, get_or-append_right, get_or_past}
use Rattle.std.proofs.lemmas.List.{drop-drop, length-drop, length-take-le}
use Rattle.std.proofs.lemmas.List.Folds.{concat-append, list_any_at, list_any_none}
use Rattle.std.proofs.lemmas.List.Quantifiers.{position-Some}
use Rattle.std.proofs.lemmas.List.Sums.{fails_before_first}
use Rattle.std.proofs.lemmas.Nat.{from_be_bytes-to_be_bytes_8}
use Rattle.std.proofs.Math.Seq.{drop-append_seam}
use Rattle.std.specs.Int.{w32, w64, from_be_bytes, to_be_bytes}
use Rattle.hex.specs.Hex.{decode_of, encode_lower, encode_with}
use Rattle.hex.proofs.HexLemmas.{decode_of-encode_lower}
use Rattle.statetext.specs.Sum.{sum_of}
use Rattle.std.specs.List.{All, concat, list_any, position_or_len, starts_with}
use Rattle.std.specs.Prelude.{◌==◌, ◌⊎◌, position, if◌then◌else◌}
use Rattle.statetext.specs.Sealed.{AreLines, AreWrites, end_in, front_by, front_in}
use Rattle.statetext.specs.Sealed.{is_damaged, is_damaged_in}
use Rattle.statetext.specs.Sealed.{is_left, mark_of, may_be, seal_of, sealed_from, sealed_text}
use Rattle.statetext.specs.Sealed.{torn_if, writes_by, writes_in}
use Rattle.statetext.specs.declared.seal.Front.{Front}
use Rattle.statetext.specs.declared.seal.Front.TheVariants as fronts
use Rattle.statetext.proofs.Seals.{front_lost, front_none, front_torn, front_whole}
use Rattle.statetext.proofs.Sealing.{eight_bytes, fits_in, is_it, is_not, mark_is, mark_length}
use Rattle.statetext.proofs.Sealing.{mark_plain, mark_rest, position_none, rows, same_of, seal_is}
use Rattle.statetext.proofs.Sealing.{n_length, rows_stand, seal_length, seal_plain, seal_rest}
use Rattle.statetext.proofs.Sealing.{sealed_more}

-- each octet of a text that isn't 0 is that of the other text at its place
abbrev IsLeftOf : (of text : List ℕ) → Type 0
IsLeftOf of text = (i : ℕ) → slice_index text i ≢ 0 → slice_index text i ≡ slice_index of i

left_so : (of text : List ℕ)
    → ((i : ℕ) → i < length of → slice_index text i ≢ 0 → slice_index text i ≡ slice_index of i)
    → is_left of text ≡ true
left_so [] text left = refl
left_so (c ∷ of) [] left = refl
left_so (c ∷ of) (x ∷ text) left =
    ap (λ (b : Bool). b && is_left of text) first
    ∙ left_so of text (λ i lt some. left (suc i) (omega (arith, lt)) some)
  where
    first : (x == 0 || x == c) ≡ true
    first = elim (eqb_tells x 0) [
      | inl zero_is ↦ ap (λ (b : Bool). b || x == c) zero_is.0
      | inr apart ↦
          ap (λ (b : Bool). b || x == c) apart.0
          ∙ is_it x c (left 0 (omega arith) apart.1)
    ]

-- a seal begins with its mark, and has the sum behind it
abbrev sum_part : (head : List ℕ) → (place : ℕ) → (lines : List ℕ) → List ℕ
sum_part head place lines =
    encode_lower (to_be_bytes w32 (sum_of (head ++ lines ++ mark_of place))) ++ 10 ∷ []

seal_front : (head : List ℕ) (place : ℕ) (lines : List ℕ)
    → seal_of head place lines ≡ mark_of place ++ sum_part head place lines
unfolding seal_of
seal_front head place lines = append_assoc (mark_of place)
    (encode_lower (to_be_bytes w32 (sum_of (head ++ lines ++ mark_of place)))) (10 ∷ [])

-- the text of a write has one `!`, behind its lines
module _ (head : List ℕ) (place : ℕ) (lines : List ℕ) (are : AreLines lines) where
  abbrev write : List ℕ
  write = lines ++ seal_of head place lines

  rest_at : (i : ℕ) → slice_index (seal_rest head place lines) i ≢ 33
  rest_at i mark = elim (cases_lt i (length (seal_rest head place lines))) [
    | inl lt ↦ (seal_plain head place lines i 0 lt).1 mark
    | inr past ↦
        let none : 0 ≡ 33 = sym (get_or_past (seal_rest head place lines) i 0 past) ∙ mark in
        absurd (omega (arith, none))
  ]

  behind_lines : (i : ℕ) → slice_index write (length lines + i)
      ≡ slice_index (33 ∷ seal_rest head place lines) i
  behind_lines i =
      let above : length lines ≤ length lines + i = omega arith in
      let back : length lines + i - length lines ≡ i = omega arith in
      get_or-append_right lines (seal_of head place lines) (length lines) (length lines + i) 0 refl
      above
      ∙ ap (λ (k : ℕ). slice_index (seal_of head place lines) k) back
      ∙ ap (λ (l : List ℕ). slice_index l i) (seal_is head place lines)

  one_mark : (i : ℕ) → slice_index write i ≡ 33 → i ≡ length lines
  one_mark i mark = elim (cases_lt i (length lines)) [
    | inl before ↦
        absurd ((are i before).1
        (sym (get_or_append_left lines (seal_of head place lines) 0 i before) ∙ mark))
    | inr behind ↦ elim (cases_lt (length lines) i) [
      | inl later ↦
          let k : ℕ = i - (length lines + 1) in
          let at : length lines + suc k ≡ i = omega (arith, later) in
          absurd (rest_at k (sym (behind_lines (suc k))
          ∙ ap (λ (n : ℕ). slice_index write n) at ∙ mark))
      | inr here ↦ omega (arith, behind, here)
    ]
  ]

  module _ (text : List ℕ) (left : IsLeftOf write text) where
    in_lines : (i : ℕ) → i < length lines → slice_index text i ≢ 0
        → slice_index text i ≡ slice_index lines i
    in_lines i lt some = left i some ∙ get_or_append_left lines (seal_of head place lines) 0 i lt

    behind_at : (i : ℕ) → slice_index (drop (length lines) text) i
        ≡ slice_index text (length lines + i)
    behind_at i = get_or-drop (length lines) text i 0

    seal_left : (i : ℕ) → slice_index (drop (length lines) text) i ≢ 0
        → slice_index (drop (length lines) text) i ≡ slice_index (seal_of head place lines) i
    seal_left i some =
        behind_at i ∙ left (length lines + i) (λ zero_is. some (behind_at i ∙ zero_is))
        ∙ behind_lines i ∙ ap (λ (l : List ℕ). slice_index l i) (sym (seal_is head place lines))

    mark_left : (i : ℕ) → i < length (mark_of place)
        → slice_index (drop (length lines) text) i ≢ 0
        → slice_index (drop (length lines) text) i ≡ slice_index (mark_of place) i
    mark_left i lt some =
        seal_left i some ∙ ap (λ (l : List ℕ). slice_index l i) (seal_front head place lines)
        ∙ get_or_append_left (mark_of place) (sum_part head place lines) 0 i lt

    no_other : list_any (λ c. c == 33) (drop 1 (drop (length lines) text)) ≡ false
    no_other = list_any_none (λ c. c == 33) (drop 1 (drop (length lines) text)) by
      where
        at_any : (xs : List ℕ) (i d : ℕ) → i < length xs → get_or xs i d ≡ get_or xs i 0
        at_any [] i d lt = absurd (omega (arith, lt))
        at_any (x ∷ xs) zero d lt = refl
        at_any (x ∷ xs) (suc i) d lt = at_any xs i d (omega (arith, lt))

        by : (i d : ℕ) → i < length (drop 1 (drop (length lines) text))
            → (get_or (drop 1 (drop (length lines) text)) i d == 33) ≡ false
        by i d lt =
            let there : get_or (drop 1 (drop (length lines) text)) i d
            ≡ slice_index text (length lines + (1 + i)) =
            at_any (drop 1 (drop (length lines) text)) i d lt
            ∙ get_or-drop 1 (drop (length lines) text) i 0 ∙ behind_at (1 + i) in
            is_not (get_or (drop 1 (drop (length lines) text)) i d) 33 (λ mark.
            let at : slice_index text (length lines + (1 + i)) ≡ 33 = sym there ∙ mark in
            let some : slice_index text (length lines + (1 + i)) ≢ 0 =
            λ zero_is. (let never : 0 ≡ 33 = sym zero_is ∙ at in absurd (omega (arith, never))) in
            let same = one_mark (length lines + (1 + i))
            (sym (left (length lines + (1 + i)) some) ∙ at) in absurd (omega (arith, same)))

    may_so : (seal : List ℕ) → is_left seal (drop (length lines) text) ≡ true
        → may_be seal (drop (length lines) text) ≡ true
    may_so seal is =
        ap (λ (b : Bool). b && not (list_any (λ c. c == 33) (drop 1 (drop (length lines) text)))) is
        ∙ ap not no_other

    at_mark : (n : ℕ) → position (λ c. c == 33) text ≡ Some n → n ≡ length lines
    at_mark n is =
        let found = position-Some (λ c. c == 33) text n 0 is in
        let mark : slice_index text n ≡ 33 = same_of (slice_index text n) 33 found.1 in
        let some : slice_index text n ≢ 0 =
        λ zero_is. (let never : 0 ≡ 33 = sym zero_is ∙ mark in absurd (omega (arith, never))) in
        one_mark n (sym (left n some) ∙ mark)

    module _ (at : position (λ c. c == 33) text ≡ Some (length lines)) where
      abbrev behind : List ℕ
      behind = drop (length lines) text

      sized : length (take (length lines) text) ≡ length lines
      sized = length-take-le (length lines) text
          (omega (arith, (position-Some (λ c. c == 33) text (length lines) 0 at).0))

      lost_torn : list_any (λ c. c == 0) (take (length lines) text) ≡ true
          → front_in head place text ≡ fronts.Torn
      lost_torn lost =
          sym (front_lost head place text (length lines) at behind (mark_of place) true fronts.Torn
          lost refl refl (sym (may_so (mark_of place) (left_so (mark_of place) behind mark_left)))
          refl)

      same_lines : list_any (λ c. c == 0) (take (length lines) text) ≡ false
          → take (length lines) text ≡ lines
      same_lines kept = ext_get_or 0 (take (length lines) text) lines sized
          (λ i lt. each i (omega (arith, lt, sized)))
        where
          each : (i : ℕ) → i < length lines
              → get_or (take (length lines) text) i 0 ≡ get_or lines i 0
          each i lt = get_or-take (length lines) text i 0 lt ∙ in_lines i lt (λ zero_is.
              let here : get_or (take (length lines) text) i 0 ≡ 0 =
              get_or-take (length lines) text i 0 lt ∙ zero_is in
              let found : list_any (λ c. c == 0) (take (length lines) text) ≡ true =
              list_any_at (λ c. c == 0) (take (length lines) text) i 0 (omega (arith, lt, sized))
              (is_it (get_or (take (length lines) text) i 0) 0 here) in
              let never : true ≡ false = sym found ∙ kept in absurd (cc))

      by_starts : (b : Bool) → starts_with ◌==◌ behind (seal_of head place lines) ≡ b
          → list_any (λ c. c == 0) (take (length lines) text) ≡ false
          → (front_in head place text ≡ fronts.Torn)
          ⊎ ((front_in head place text ≡ fronts.Whole (length lines))
          × (take (length lines) text ≡ lines))
      by_starts true starts kept =
          inr (
            sym (front_whole head place text (length lines) at behind (seal_of head place lines)
                true kept refl (ap (seal_of head place) (sym (same_lines kept))) (sym starts) refl),
            same_lines kept,
          )
      by_starts false starts kept =
          inl (sym (front_torn head place text (length lines) at behind (seal_of head place lines)
          false true fronts.Torn kept refl (ap (seal_of head place) (sym (same_lines kept)))
          (sym starts) refl
          (sym (may_so (seal_of head place lines)
          (left_so (seal_of head place lines) behind (λ i lt some. seal_left i some)))) refl))

      by_lost : (b : Bool) → list_any (λ c. c == 0) (take (length lines) text) ≡ b
          → (front_in head place text ≡ fronts.Torn)
          ⊎ ((front_in head place text ≡ fronts.Whole (length lines))
          × (take (length lines) text ≡ lines))
      by_lost true lost = inl (lost_torn lost)
      by_lost false kept =
          by_starts (starts_with ◌==◌ behind (seal_of head place lines)) refl kept

    by_mark : (o : Option ℕ) → position (λ c. c == 33) text ≡ o
        → (front_in head place text ≡ fronts.Torn)
        ⊎ ((front_in head place text ≡ fronts.Whole (length lines))
        × (take (length lines) text ≡ lines))
    by_mark None is = inl (sym (front_none head place text is))
    by_mark (Some n) is =
        by_lost (is ∙ ap (λ (k : ℕ). Some k) (at_mark n is))
        (list_any (λ c. c == 0) (take (length lines) text)) refl

    -- what is left of a write is torn, or all of it
    pub left_front : (front_in head place text ≡ fronts.Torn)
        ⊎ ((front_in head place text ≡ fronts.Whole (length lines))
        × (take (length lines) text ≡ lines))
    left_front = by_mark (position (λ c. c == 33) text) refl

    write_length : length write ≡ length lines + 27
    write_length = length-append lines (seal_of head place lines)
        ∙ ap (λ (n : ℕ). length lines + n) (seal_length head place lines)

    -- and nothing stands behind it
    pub none_behind : (i : ℕ) → slice_index (drop (length lines + 27) text) i ≡ 0
    none_behind i =
        let there = get_or-drop (length lines + 27) text i 0 in
        elim (eqb_tells (slice_index text (length lines + 27 + i)) 0) [
          | inl zero_is ↦ there ∙ zero_is.1
          | inr apart ↦
              there ∙ left (length lines + 27 + i) apart.1
              ∙ get_or_past write (length lines + 27 + i) 0 (omega (arith, write_length))
        ]

pub zeros_torn : (head : List ℕ) (place : ℕ) (text : List ℕ) → ((i : ℕ) → slice_index text i ≡ 0)
    → front_in head place text ≡ fronts.Torn
zeros_torn head place text zeros =
    sym (front_none head place text (position_none (λ c. c == 33) text
    (λ k lt. is_not (get_or text k 0) 33 (λ mark.
    let never : 0 ≡ 33 = sym (zeros k) ∙ mark in absurd (omega (arith, never))))))

-- Writes, and what is left of another one behind them

row_at : (head : List ℕ) (writes : List (List ℕ)) (tail : List ℕ) → AreWrites writes
    → (more : ℕ) × (length tail ≤ more)
    × (writes_in head (sealed_text head writes ++ tail)
    ≡ writes ++ writes_by more head (length (sealed_text head writes)) tail
    (front_in head (length (sealed_text head writes)) tail))
unfolding writes_in
row_at head writes tail are =
    let (more, least, is) = rows head writes 0 (length (sealed_text head writes ++ tail)) tail are
    (omega arith) in
    let same : 0 + length (sealed_text head writes) ≡ length (sealed_text head writes) =
    omega arith in (
      more,
      least,
      is ∙ ap (λ (n : ℕ). writes ++ writes_by more head n tail (front_in head n tail)) same,
    )

pub begins_with_row : (head : List ℕ) (writes : List (List ℕ)) (tail : List ℕ) → AreWrites writes
    → (more : List ℕ) × (concat (writes_in head (sealed_text head writes ++ tail))
    ≡ concat writes ++ more)
begins_with_row head writes tail are =
    let (more, least, is) = row_at head writes tail are in
    let others : List (List ℕ) = writes_by more head (length (sealed_text head writes)) tail
    (front_in head (length (sealed_text head writes)) tail) in
    (concat others, ap concat is ∙ concat-append writes others)

-- so much is read of it
pub record IsReadAs (head text : List ℕ) (writes : List (List ℕ)) : Type 0 where
  pub read : writes_in head text ≡ writes
  pub sound : is_damaged_in head text ≡ false

module _ (head : List ℕ) (writes : List (List ℕ)) (tail late : List ℕ) (are : AreWrites writes)
    (plain : AreLines late)
    (left : IsLeftOf (late ++ seal_of head (length (sealed_text head writes)) late) tail) where
  abbrev start : ℕ
  start = length (sealed_text head writes)

  abbrev all : List ℕ
  all = sealed_text head writes ++ tail

  sound_at : (ws : List (List ℕ)) → writes_in head all ≡ ws
      → front_in head (length (sealed_text head ws)) (drop (length (sealed_text head ws)) all)
      ≡ fronts.Torn → IsReadAs head all ws
  sound_at ws is torn = record {
    read = is;
    sound = ap (λ (w : List (List ℕ)). is_damaged (front_in head (length (sealed_text head w))
        (drop (length (sealed_text head w)) all))) is ∙ ap is_damaged torn;
  }

  behind_writes : drop start all ≡ tail
  behind_writes = drop-append_seam (sealed_text head writes) tail

  torn_read : (more : ℕ) → writes_in head all ≡ writes ++ writes_by more head start tail
      (front_in head start tail) → front_in head start tail ≡ fronts.Torn
      → IsReadAs head all writes
  torn_read more is torn =
      sound_at writes
      (is ∙ ap (λ (f : Front). writes ++ writes_by more head start tail f) torn
      ∙ append-nil writes)
      (ap (front_in head start) behind_writes ∙ torn)

  next_place : length (sealed_text head (writes ++ late ∷ [])) ≡ start + (length late + 27)
  next_place = omega (
    arith,
    ap length (sealed_more head writes 0 late),
    length-append (sealed_text head writes) (late ++ seal_of head (0 + start) late),
    length-append late (seal_of head (0 + start) late),
    seal_length head (0 + start) late,
  )

  rest_torn : (place : ℕ) → front_in head place (drop (length late + 27) tail) ≡ fronts.Torn
  rest_torn place = zeros_torn head place (drop (length late + 27) tail)
      (none_behind head start late plain tail left)

  whole_read : (more : ℕ) → length tail ≤ more
      → writes_in head all ≡ writes ++ writes_by more head start tail (front_in head start tail)
      → front_in head start tail ≡ fronts.Whole (length late) → take (length late) tail ≡ late
      → IsReadAs head all (writes ++ late ∷ [])
  whole_read zero enough is whole same =
      absurd (omega (arith, enough, fits_in head start tail (length late) whole))
  whole_read (suc more) enough is whole same =
      sound_at (writes ++ late ∷ [])
      (is ∙ ap (λ (f : Front). writes ++ writes_by (suc more) head start tail f) whole
      ∙ ap (λ (f : Front). writes ++ (take (length late) tail
      ∷ writes_by more head (start + (length late + 27)) (drop (length late + 27) tail) f))
      (rest_torn (start + (length late + 27)))
      ∙ ap (λ (l : List ℕ). writes ++ l ∷ []) same)
      (ap (λ (n : ℕ). front_in head (length (sealed_text head (writes ++ late ∷ []))) (drop n all))
      next_place
      ∙ ap (front_in head (length (sealed_text head (writes ++ late ∷ []))))
      (sym (drop-drop (length late + 27) start all)
      ∙ ap (drop (length late + 27)) behind_writes)
      ∙ rest_torn (length (sealed_text head (writes ++ late ∷ []))))

  pub read_as : IsReadAs head all writes ⊎ IsReadAs head all (writes ++ late ∷ [])
  read_as =
      let (more, least, is) = row_at head writes tail are in
      elim (left_front head start late plain tail left) [
        | inl torn ↦ inl (torn_read more is torn)
        | inr whole ↦ inr (whole_read more least is whole.0 whole.1)
      ]

-- No seal of another place is passed over

is_front : (of more text : List ℕ) → is_left (of ++ more) text ≡ true → is_left of text ≡ true
is_front [] more text is = refl
is_front (c ∷ of) more [] is = refl
is_front (c ∷ of) more (x ∷ text) is =
    by (is_front of more text) (x == 0 || x == c) (is_left (of ++ more) text) refl refl is
  where
    by : (is_left (of ++ more) text ≡ true → is_left of text ≡ true) → (a b : Bool)
        → (x == 0 || x == c) ≡ a → is_left (of ++ more) text ≡ b → (a && b) ≡ true
        → ((x == 0 || x == c) && is_left of text) ≡ true
    by rest true true first others both =
        ap (λ (y : Bool). y && is_left of text) first ∙ rest others
    by rest true false first others both = absurd (cc)
    by rest false b first others both = absurd (cc)

-- octets of which none is 0 are those of which they are left
is_same : (of text more : List ℕ) → length of ≡ length text → All (λ c. c ≢ 0) text
    → is_left of (text ++ more) ≡ true → text ≡ of
is_same [] [] more long some is = refl
is_same [] (x ∷ text) more long some is = absurd (omega (arith, long))
is_same (c ∷ of) [] more long some is = absurd (omega (arith, long))
is_same (c ∷ of) (x ∷ text) more long some is =
    by (is_same of text more (omega (arith, long)) tail_some) (x == 0) (x == c)
    (is_left of (text ++ more)) refl refl refl is
  where
    tail_some : All (λ c. c ≢ 0) text
    tail_some i d lt = some (suc i) d (omega (arith, lt))

    by : (is_left of (text ++ more) ≡ true → text ≡ of) → (a b e : Bool) → (x == 0) ≡ a
        → (x == c) ≡ b → is_left of (text ++ more) ≡ e → ((a || b) && e) ≡ true
        → x ∷ text ≡ c ∷ of
    by rest true b e zero_is same others both =
        absurd (some 0 0 (omega arith) (same_of x 0 zero_is))
    by rest false true true zero_is same others both =
        ap (λ (l : List ℕ). x ∷ l) (rest others) ∙ ap (λ (n : ℕ). n ∷ of) (same_of x c same)
    by rest false true false zero_is same others both = absurd (cc)
    by rest false false e zero_is same others both = absurd (cc)

digits_at : (n : ℕ) → take 16 (drop 1 (mark_of n)) ≡ encode_lower (to_be_bytes w64 n)
unfolding mark_of encode_with
digits_at n = refl

same_place : (a b : ℕ) → a < 2 ^ 64 → b < 2 ^ 64 → mark_of a ≡ mark_of b → a ≡ b
same_place a b few few' is =
    let digits : encode_lower (to_be_bytes w64 a) ≡ encode_lower (to_be_bytes w64 b) =
    sym (digits_at a) ∙ ap (λ (l : List ℕ). take 16 (drop 1 l)) is ∙ digits_at b in
    let read : Ok (to_be_bytes w64 a) ≡ Ok (to_be_bytes w64 b) =
    sym (decode_of-encode_lower (to_be_bytes w64 a) (eight_bytes a)) ∙ ap decode_of digits
    ∙ decode_of-encode_lower (to_be_bytes w64 b) (eight_bytes b) in
    let octets : to_be_bytes w64 a ≡ to_be_bytes w64 b = cc in
    sym (from_be_bytes-to_be_bytes_8 a few) ∙ ap (from_be_bytes w64) octets
    ∙ from_be_bytes-to_be_bytes_8 b few'

mark_some : (place : ℕ) → All (λ c. c ≢ 0) (mark_of place)
mark_some place i d lt =
    subst (λ (l : List ℕ). i < length l → get_or l i d ≢ 0) (sym (mark_is place)) (by i) lt
  where
    by : (i : ℕ) → i < length (33 ∷ mark_rest place) → get_or (33 ∷ mark_rest place) i d ≢ 0
    by zero lt zero_is = absurd (omega (arith, zero_is))
    by (suc i) lt zero_is = (mark_plain place i d (omega (arith, lt))).0 zero_is

module _ (head : List ℕ) (place : ℕ) (text before after : List ℕ) (other : ℕ)
    (few : place < 2 ^ 64) (few' : other < 2 ^ 64)
    (stands : text ≡ before ++ (mark_of other ++ after))
    (torn : front_in head place text ≡ fronts.Torn) where
  mark_at : slice_index text (length before) ≡ 33
  mark_at =
      let zero_at : length before + 0 ≡ length before = omega arith in
      ap (λ (n : ℕ). slice_index text n) (sym zero_at) ∙ sym (get_or-drop (length before) text 0 0)
      ∙ ap (λ (l : List ℕ). get_or l 0 0)
      (ap (drop (length before)) stands ∙ drop-append_seam before (mark_of other ++ after)
      ∙ ap (λ (l : List ℕ). l ++ after) (mark_is other))

  within : length before < length text
  within = omega (
    arith,
    ap length stands,
    length-append before (mark_of other ++ after),
    length-append (mark_of other) after,
    mark_length other,
  )

  -- what was compared
  record IsCompared (n : ℕ) : Type 0 where
    pub first : position (λ c. c == 33) text ≡ Some n
    pub left : is_left (mark_of place) (drop n text) ≡ true
    pub one : list_any (λ c. c == 33) (drop 1 (drop n text)) ≡ false

  torn_by : (b : Bool) → torn_if b ≡ fronts.Torn → b ≡ true
  torn_by true is = refl
  torn_by false is = absurd (cc)

  both : (a b : Bool) → (a && not b) ≡ true → (a ≡ true) × (b ≡ false)
  both true true is = absurd (cc)
  both true false is = (refl, refl)
  both false b is = absurd (cc)

  by_seal : (n : ℕ) → position (λ c. c == 33) text ≡ Some n → (seal more : List ℕ)
      → seal ≡ mark_of place ++ more → torn_if (may_be seal (drop n text)) ≡ fronts.Torn
      → IsCompared n
  by_seal n first seal more seal_so is =
      let parts = both (is_left seal (drop n text)) (list_any (λ c. c == 33) (drop 1 (drop n text)))
      (torn_by (may_be seal (drop n text)) is) in
      record {
        first = first;
        left = is_front (mark_of place) more (drop n text)
            (ap (λ (l : List ℕ). is_left l (drop n text)) (sym seal_so) ∙ parts.0);
        one = parts.1;
      }

  by_starts_so : (n : ℕ) → position (λ c. c == 33) text ≡ Some n → (b : Bool)
      → (if b then fronts.Whole n
      else torn_if (may_be (seal_of head place (take n text)) (drop n text))) ≡ fronts.Torn
      → IsCompared n
  by_starts_so n first true is = absurd (cc)
  by_starts_so n first false is =
      by_seal n first (seal_of head place (take n text)) (sum_part head place (take n text))
      (seal_front head place (take n text)) is

  by_lost_so : (n : ℕ) → position (λ c. c == 33) text ≡ Some n → (b : Bool)
      → (if b then torn_if (may_be (mark_of place) (drop n text))
      else if starts_with ◌==◌ (drop n text) (seal_of head place (take n text)) then fronts.Whole n
      else torn_if (may_be (seal_of head place (take n text)) (drop n text))) ≡ fronts.Torn
      → IsCompared n
  by_lost_so n first true is =
      by_seal n first (mark_of place) [] (sym (append-nil (mark_of place))) is
  by_lost_so n first false is =
      by_starts_so n first
      (starts_with ◌==◌ (drop n text) (seal_of head place (take n text))) is

  by_first : (o : Option ℕ) → position (λ c. c == 33) text ≡ o
      → front_by head place text o ≡ fronts.Torn → (n : ℕ) × IsCompared n
  by_first None first is = absurd (no_mark first)
    where
      no_mark : position (λ c. c == 33) text ≡ None → ⊥
      no_mark none = by_count (position_or_len (λ c. c == 33) text) refl
        where
          by_count : (n : ℕ) → position_or_len (λ c. c == 33) text ≡ n → ⊥
          by_count n count = elim (cases_lt n (length text)) [
            | inl lt ↦
                let is_some : position (λ c. c == 33) text ≡ Some n =
                ap (λ (k : ℕ). cond (nat_lt k (length text)) (Some k) None) count
                ∙ ap (λ (b : Bool). cond b (Some n) None)
                (let e : nat_lt n (length text) ≡ true = grind (arith, lt) in e) in
                let never : None ≡ Some n = sym none ∙ is_some in absurd (cc)
            | inr past ↦
                let fails = fails_before_first (λ c. c == 33) text (length before) 0
                (omega (arith, count, past, within)) in
                let passes : (get_or text (length before) 0 == 33) ≡ true =
                is_it (get_or text (length before) 0) 33 mark_at in
                let never : true ≡ false = sym passes ∙ fails in absurd (cc)
          ]
  by_first (Some n) first is =
      (n, by_lost_so n first (list_any (λ c. c == 0) (take n text)) is)

  compared : (n : ℕ) × IsCompared n
  unfolding front_in
  compared = by_first (position (λ c. c == 33) text) refl torn

  first_is : (n : ℕ) → IsCompared n → n ≡ length before
  first_is n c =
      let found = position-Some (λ c. c == 33) text n 0 c.first in
      elim (cases_lt n (length before)) [
        | inl earlier ↦
            let k : ℕ = length before - (n + 1) in
            let at : n + (1 + k) ≡ length before = omega (arith, earlier) in
            let there : get_or (drop 1 (drop n text)) k 0 ≡ 33 =
            get_or-drop 1 (drop n text) k 0 ∙ get_or-drop n text (1 + k) 0
            ∙ ap (λ (i : ℕ). get_or text i 0) at ∙ mark_at in
            let any : list_any (λ c. c == 33) (drop 1 (drop n text)) ≡ true =
            list_any_at (λ c. c == 33) (drop 1 (drop n text)) k 0
            (omega (arith, within, earlier, length-drop 1 (drop n text), length-drop n text))
            (is_it (get_or (drop 1 (drop n text)) k 0) 33 there) in
            let never : true ≡ false = sym any ∙ c.one in absurd (cc)
        | inr late_by ↦ elim (cases_lt (length before) n) [
          | inl later ↦
              let fails = found.2 (length before) later in
              let passes : (get_or text (length before) 0 == 33) ≡ true =
              is_it (get_or text (length before) 0) 33 mark_at in
              let never : true ≡ false = sym passes ∙ fails in absurd (cc)
          | inr here ↦ omega (arith, late_by, here)
        ]
      ]

  pub no_other_place : other ≡ place
  no_other_place =
      let (n, c) = compared in
      let behind : drop n text ≡ mark_of other ++ after =
      ap (λ (k : ℕ). drop k text) (first_is n c) ∙ ap (drop (length before)) stands
      ∙ drop-append_seam before (mark_of other ++ after) in
      same_place other place few' few
      (is_same (mark_of place) (mark_of other) after (mark_length place ∙ sym (mark_length other))
      (mark_some other)
      (ap (is_left (mark_of place)) (sym behind) ∙ c.left))

-- The whole beginning is the longest

no_longer : (fuel : ℕ) (head : List ℕ) (place : ℕ) (text : List ℕ) (front : Front)
    → front_in head place text ≡ front → length text ≤ fuel → (n : ℕ)
    → front_in head (place + length (sealed_from head place (writes_by fuel head place text front)))
    (drop (length (sealed_from head place (writes_by fuel head place text front))) text)
    ≡ fronts.Whole n → ⊥
no_longer fuel head place text fronts.Torn is enough n whole =
    let same : place ≡ place + 0 = omega arith in
    let never : fronts.Torn ≡ fronts.Whole n =
    sym is ∙ ap (λ (k : ℕ). front_in head k text) same ∙ whole in absurd (cc)
no_longer fuel head place text fronts.Damaged is enough n whole =
    let same : place ≡ place + 0 = omega arith in
    let never : fronts.Damaged ≡ fronts.Whole n =
    sym is ∙ ap (λ (k : ℕ). front_in head k text) same ∙ whole in absurd (cc)
no_longer zero head place text (fronts.Whole m) is enough n whole =
    absurd (omega (arith, enough, fits_in head place text m is))
no_longer (suc fuel) head place text (fronts.Whole m) is enough n whole =
    let next : ℕ = place + (m + 27) in
    let rest : List ℕ = drop (m + 27) text in
    let lines : List ℕ = take m text in
    let more : List (List ℕ) = writes_by fuel head next rest (front_in head next rest) in
    let front : List ℕ = lines ++ seal_of head place lines in
    let others : List ℕ = sealed_from head next more in
    let at_next : place + (length lines + 27) ≡ next =
    ap (λ (k : ℕ). place + (k + 27)) (n_length head place text m is) in
    let sized : length front ≡ m + 27 = omega (
      arith,
      length-append lines (seal_of head place lines),
      seal_length head place lines,
      n_length head place text m is,
    ) in
    let all : length (front ++ sealed_from head (place + (length lines + 27)) more)
    ≡ m + 27 + length others =
    ap (λ (k : ℕ). length (front ++ sealed_from head k more)) at_next
    ∙ length-append front others ∙ ap (λ (k : ℕ). k + length others) sized in
    let end : place + (m + 27 + length others) ≡ next + length others = omega arith in
    let less : length rest ≤ fuel =
    omega (arith, enough, length-drop (m + 27) text, fits_in head place text m is) in
    no_longer fuel head next rest (front_in head next rest) refl less n
    (ap (front_in head (next + length others)) (drop-drop (length others) (m + 27) text)
    ∙ ap (λ (k : ℕ). front_in head k (drop (m + 27 + length others) text)) (sym end)
    ∙ ap (λ (k : ℕ). front_in head (place + k) (drop k text)) (sym all) ∙ whole)

-- if no damage is told behind it, no seal of another place stands there
pub none_passed_over : (head text before after : List ℕ) (place : ℕ) → length text < 2 ^ 64
    → place < 2 ^ 64
    → drop (end_in head text) text ≡ before ++ (mark_of place ++ after)
    → is_damaged_in head text ≡ false → place ≡ end_in head text
unfolding writes_in
none_passed_over head text before after place few few' stands sound =
    by (front_in head (end_in head text) (drop (end_in head text) text)) refl sound
  where
    small : end_in head text < 2 ^ 64
    small = omega (
      arith,
      few,
      length-drop (end_in head text) text,
      ap length stands,
      length-append before (mark_of place ++ after),
      length-append (mark_of place) after,
      mark_length place,
    )

    by : (f : Front) → front_in head (end_in head text) (drop (end_in head text) text) ≡ f
        → is_damaged f ≡ false → place ≡ end_in head text
    by fronts.Torn is fine =
        no_other_place head (end_in head text) (drop (end_in head text) text) before after place
        small few' stands is
    by fronts.Damaged is fine = absurd (cc)
    by (fronts.Whole n) is fine =
        absurd (no_longer (length text) head 0 text (front_in head 0 text) refl (omega arith) n
        (let same : 0 + end_in head text ≡ end_in head text = omega arith in
        ap (λ (k : ℕ). front_in head k (drop (end_in head text) text)) same ∙ is))

-- the text is what was read of it, and what follows
pub read_stands : (head text : List ℕ) → AreWrites (writes_in head text)
    × (text ≡ sealed_text head (writes_in head text) ++ drop (end_in head text) text)
unfolding writes_in
read_stands head text = rows_stand (length text) head 0 text (front_in head 0 text) refl
