-- What is read of a text of writes.
use Rattle.std.proofs.Common.{◌≡◌, ◌≢◌, ◌∙◌, inl, inr, ℕ, zero, suc, ◌+◌, ◌^◌, ◌<◌, ◌≤◌, ◌/◌, ◌%◌}
use Rattle.std.proofs.Common.{Bool, true, false, cond, List, [], ◌∷◌, ◌++◌, length}
use Rattle.std.proofs.Common.{take, drop, get_or, Option, Some, None, refl, sym, ap}
use Rattle.std.proofs.Common.{subst, arith, append_assoc, length-append, lit<, nat_lt}
use Rattle.std.proofs.lemmas.Bool.Decides.{Decides-eqb, eqb_tells}
use Rattle.std.proofs.lemmas.List.{append-nil, get_or-drop, get_or-take}
use Rattle.std.proofs.lemmas.List.{get_or_append_left}
use Rattle.std.proofs.lemmas.List.{drop-drop, length-drop, length-take-le}
use Rattle.std.proofs.lemmas.List.{take-append-drop}
use Rattle.std.proofs.lemmas.List.Elements.{All-append, All-cons, All-nil}
use Rattle.std.proofs.lemmas.List.Folds.{list_any_at, list_any_none}
use Rattle.std.proofs.lemmas.List.Quantifiers.{position-Some}
use Rattle.std.proofs.lemmas.List.Sums.{position_or_len_is}
use Rattle.std.proofs.lemmas.Slice.Eq.{starts_is}
use Rattle.std.proofs.Math.Seq.{drop-append_seam, take-append_seam}
use Rattle.std.specs.Int.{w32, w64, to_be_bytes}
use Rattle.std.specs.List.{All, list_any, position_or_len, starts_with}
use Rattle.std.specs.Prelude.{◌==◌, position, if◌then◌else◌}
use Rattle.hex.specs.Hex.{IsBytes, encode_lower, encode_with, is_hex_digit}
use Rattle.hex.proofs.HexLemmas.{decode_of-encode_lower, decode_of-ok}
use Rattle.statetext.specs.Sum.{sum_of}
use Rattle.statetext.specs.Sealed.{AreLines, AreWrites, front_by, front_in, mark_of, may_be}
use Rattle.statetext.specs.Sealed.{seal_of, sealed_from, torn_if, writes_by}
use Rattle.statetext.specs.declared.seal.Front.{Front}
use Rattle.statetext.specs.declared.seal.Front.TheVariants as fronts
use Rattle.statetext.proofs.Seals.{front_whole}

-- Digits

no_bytes : IsBytes []
no_bytes i = lit< tt

byte_of : (n : ℕ) → n % 256 < 256
byte_of n = omega arith

more_bytes : (a b c d : ℕ) (rest : List ℕ) → IsBytes rest
    → IsBytes (a % 256 ∷ b % 256 ∷ c % 256 ∷ d % 256 ∷ rest)
more_bytes a b c d rest others zero = byte_of a
more_bytes a b c d rest others (suc zero) = byte_of b
more_bytes a b c d rest others (suc (suc zero)) = byte_of c
more_bytes a b c d rest others (suc (suc (suc zero))) = byte_of d
more_bytes a b c d rest others (suc (suc (suc (suc i)))) = others i

pub four_bytes : (n : ℕ) → IsBytes (to_be_bytes w32 n)
four_bytes n = more_bytes (n / 256 ^ 3) (n / 256 ^ 2) (n / 256 ^ 1) n [] no_bytes

pub eight_bytes : (n : ℕ) → IsBytes (to_be_bytes w64 n)
eight_bytes n =
    let low = more_bytes (n / 256 ^ 3) (n / 256 ^ 2) (n / 256 ^ 1) n [] no_bytes in
    more_bytes (n / 256 ^ 7) (n / 256 ^ 6) (n / 256 ^ 5) (n / 256 ^ 4) (to_be_bytes w32 n) low

-- neither 0 nor `!`
abbrev pub IsPlain : ℕ → Type 0
IsPlain c = (c ≢ 0) × (c ≢ 33)

digit_plain : (c : ℕ) → is_hex_digit c ≡ true → IsPlain c
digit_plain c is = (
  λ zero. no_digit 0 refl (ap is_hex_digit (sym zero) ∙ is),
  λ mark. no_digit 33 refl (ap is_hex_digit (sym mark) ∙ is),
)
  where
    no_digit : (n : ℕ) → is_hex_digit n ≡ false → is_hex_digit n ≡ true → ⊥
    no_digit n e f = let never : true ≡ false = sym f ∙ e in absurd (cc)

digits_plain : (octets : List ℕ) → IsBytes octets → All IsPlain (encode_lower octets)
digits_plain octets bytes i x lt =
    digit_plain _
    ((decode_of-ok (encode_lower octets) octets (decode_of-encode_lower octets bytes)).1 i x lt)

-- a seal behind its first octet
abbrev pub mark_rest : (place : ℕ) → List ℕ
mark_rest place = encode_lower (to_be_bytes w64 place) ++ 32 ∷ []

abbrev pub seal_rest : (head : List ℕ) → (place : ℕ) → (lines : List ℕ) → List ℕ
seal_rest head place lines =
    mark_rest place ++ encode_lower (to_be_bytes w32 (sum_of (head ++ lines ++ mark_of place)))
    ++ 10 ∷ []

plain_octet : (c : ℕ) → (c == 0) ≡ false → (c == 33) ≡ false → IsPlain c
plain_octet c a b = (other c 0 a, other c 33 b)
  where
    other : (c d : ℕ) → (c == d) ≡ false → c ≢ d
    other c d e = grind arith

pub mark_plain : (place : ℕ) → All IsPlain (mark_rest place)
mark_plain place =
    All-append IsPlain (encode_lower (to_be_bytes w64 place)) (32 ∷ [])
    (digits_plain (to_be_bytes w64 place) (eight_bytes place))
    (All-cons IsPlain 32 [] (plain_octet 32 refl refl) (All-nil IsPlain))

pub seal_plain : (head : List ℕ) (place : ℕ) (lines : List ℕ) → All IsPlain (seal_rest head place lines)
seal_plain head place lines =
    let sum : ℕ = sum_of (head ++ lines ++ mark_of place) in
    All-append IsPlain (mark_rest place ++ encode_lower (to_be_bytes w32 sum)) (10 ∷ [])
    (All-append IsPlain (mark_rest place) (encode_lower (to_be_bytes w32 sum)) (mark_plain place)
    (digits_plain (to_be_bytes w32 sum) (four_bytes sum)))
    (All-cons IsPlain 10 [] (plain_octet 10 refl refl) (All-nil IsPlain))

pub seal_is : (head : List ℕ) (place : ℕ) (lines : List ℕ)
    → seal_of head place lines ≡ 33 ∷ seal_rest head place lines
unfolding seal_of mark_of
seal_is head place lines = refl

pub mark_is : (place : ℕ) → mark_of place ≡ 33 ∷ mark_rest place
unfolding mark_of
mark_is place = refl

pub seal_length : (head : List ℕ) (place : ℕ) (lines : List ℕ)
    → length (seal_of head place lines) ≡ 27
unfolding seal_of mark_of encode_with
seal_length head place lines = refl

pub mark_length : (place : ℕ) → length (mark_of place) ≡ 18
unfolding mark_of encode_with
mark_length place = refl

-- The first `!`

position_is : (p : ℕ → Bool) (xs : List ℕ) (i : ℕ) → i < length xs
    → ((k : ℕ) → k < i → p (get_or xs k 0) ≡ false) → p (get_or xs i 0) ≡ true
    → position p xs ≡ Some i
position_is p xs i lt fails passes =
    let same : position_or_len p xs ≡ i =
    position_or_len_is p xs i 0 (omega (arith, lt)) fails (λ _. passes) in
    let within : nat_lt i (length xs) ≡ true = grind (arith, lt) in
    ap (λ (n : ℕ). cond (nat_lt n (length xs)) (Some n) None) same
    ∙ ap (λ (b : Bool). cond b (Some i) None) within

pub position_none : (p : ℕ → Bool) (xs : List ℕ)
    → ((k : ℕ) → k < length xs → p (get_or xs k 0) ≡ false) → position p xs ≡ None
position_none p xs fails =
    let same : position_or_len p xs ≡ length xs =
    position_or_len_is p xs (length xs) 0 (omega arith) fails (λ lt. absurd (omega (arith, lt))) in
    let out : nat_lt (length xs) (length xs) ≡ false = grind arith in
    ap (λ (n : ℕ). cond (nat_lt n (length xs)) (Some n) None) same
    ∙ ap (λ (b : Bool). cond b (Some (length xs)) None) out

pub is_not : (c d : ℕ) → c ≢ d → (c == d) ≡ false
is_not c d other = elim (eqb_tells c d) [
  | inl same ↦ absurd (other same.1)
  | inr apart ↦ apart.0
]

pub is_it : (c d : ℕ) → c ≡ d → (c == d) ≡ true
is_it c d same = elim (eqb_tells c d) [
  | inl is ↦ is.0
  | inr apart ↦ absurd (apart.1 same)
]

pub same_of : (c d : ℕ) → (c == d) ≡ true → c ≡ d
same_of c d is = (Decides-eqb c d).0 is

-- A whole write at the front

module _ (head : List ℕ) (place : ℕ) (lines rest : List ℕ) (are : AreLines lines) where
  abbrev whole : List ℕ
  whole = lines ++ seal_of head place lines ++ rest

  apart : whole ≡ lines ++ (seal_of head place lines ++ rest)
  apart = append_assoc lines (seal_of head place lines) rest

  whole_take : take (length lines) whole ≡ lines
  whole_take = ap (take (length lines)) apart
      ∙ take-append_seam lines (seal_of head place lines ++ rest)

  whole_drop : drop (length lines) whole ≡ seal_of head place lines ++ rest
  whole_drop = ap (drop (length lines)) apart
      ∙ drop-append_seam lines (seal_of head place lines ++ rest)

  whole_length : length whole ≡ length lines + 27 + length rest
  whole_length = omega (
    arith,
    length-append (lines ++ seal_of head place lines) rest,
    length-append lines (seal_of head place lines),
    seal_length head place lines,
  )

  pub whole_behind : drop (length lines + 27) whole ≡ rest
  whole_behind =
      ap (λ (n : ℕ). drop n whole) (let e : length lines + 27
      ≡ length (lines ++ seal_of head place lines) =
      omega (arith, length-append lines (seal_of head place lines), seal_length head place lines)
      in e)
      ∙ drop-append_seam (lines ++ seal_of head place lines) rest

  whole_mark : position (λ c. c == 33) whole ≡ Some (length lines)
  whole_mark =
      position_is (λ c. c == 33) whole (length lines) (omega (arith, whole_length))
      (λ k lt. ap (λ (c : ℕ). c == 33) (before k lt)
      ∙ is_not (get_or lines k 0) 33 (are k lt).1)
      (ap (λ (c : ℕ). c == 33) here)
    where
      before : (k : ℕ) → k < length lines → get_or whole k 0 ≡ get_or lines k 0
      before k lt = ap (λ (l : List ℕ). get_or l k 0) apart
          ∙ get_or_append_left lines (seal_of head place lines ++ rest) 0 k lt

      here : get_or whole (length lines) 0 ≡ 33
      here =
          let zero_at : length lines + 0 ≡ length lines = omega arith in
          ap (λ (n : ℕ). get_or whole n 0) (sym zero_at)
          ∙ sym (get_or-drop (length lines) whole 0 0)
          ∙ ap (λ (l : List ℕ). get_or l 0 0) (whole_drop
          ∙ ap (λ (l : List ℕ). l ++ rest) (seal_is head place lines))

  no_zeros : list_any (λ c. c == 0) lines ≡ false
  no_zeros = list_any_none (λ c. c == 0) lines (λ i d lt. is_not (get_or lines i d) 0
      (λ zero. (are i lt).0 (at_any lines i d lt ∙ zero)))
    where
      at_any : (xs : List ℕ) (i d : ℕ) → i < length xs → get_or xs i 0 ≡ get_or xs i d
      at_any [] i d lt = absurd (omega (arith, lt))
      at_any (x ∷ xs) zero d lt = refl
      at_any (x ∷ xs) (suc i) d lt = at_any xs i d (omega (arith, lt))

  pub whole_front : front_in head place whole ≡ fronts.Whole (length lines)
  whole_front =
      sym (front_whole head place whole (length lines) whole_mark (drop (length lines) whole)
      (seal_of head place lines) true
      (ap (list_any (λ c. c == 0)) whole_take ∙ no_zeros) refl
      (ap (seal_of head place) (sym whole_take))
      (sym ((starts_is Decides-eqb (drop (length lines) whole) (seal_of head place lines) _ refl).1
      rest whole_drop)) refl)

-- Writes one behind another

pub rows : (head : List ℕ) (writes : List (List ℕ)) (place fuel : ℕ) (tail : List ℕ)
    → AreWrites writes → length (sealed_from head place writes ++ tail) ≤ fuel
    → (more : ℕ) × (length tail ≤ more)
    × (writes_by fuel head place (sealed_from head place writes ++ tail)
    (front_in head place (sealed_from head place writes ++ tail))
    ≡ writes ++ writes_by more head (place + length (sealed_from head place writes)) tail
    (front_in head (place + length (sealed_from head place writes)) tail))
rows head [] place fuel tail are enough =
    let same : place + 0 ≡ place = omega arith in (
      fuel,
      enough,
      ap (λ (n : ℕ). writes_by fuel head n tail (front_in head n tail)) (sym same),
    )
rows head (lines ∷ writes) place zero tail are enough =
    absurd (omega (
      arith,
      enough,
      length-append (lines ++ seal_of head place lines
          ++ sealed_from head (place + (length lines + 27)) writes) tail,
      length-append (lines ++ seal_of head place lines)
          (sealed_from head (place + (length lines + 27)) writes),
      length-append lines (seal_of head place lines),
      seal_length head place lines,
    ))
rows head (lines ∷ writes) place (suc fuel) tail are enough =
    let next : ℕ = place + (length lines + 27) in
    let others : List ℕ = sealed_from head next writes in
    let front : List ℕ = lines ++ seal_of head place lines in
    let grouped : front ++ others ++ tail ≡ front ++ (others ++ tail) =
    append_assoc front others tail in
    let sized : length front ≡ length lines + 27 =
    length-append lines (seal_of head place lines)
    ∙ ap (λ (n : ℕ). length lines + n) (seal_length head place lines) in
    let less : length (others ++ tail) ≤ fuel =
    omega (arith, enough, sized, length-append front (others ++ tail), ap length grouped) in
    let (more, least, is) = rows head writes next fuel tail are.1 less in
    let end : next + length others ≡ place + length (front ++ others) =
    omega (arith, sized, length-append front others) in
    let behind : drop (length lines + 27) (front ++ (others ++ tail)) ≡ others ++ tail =
    whole_behind head place lines (others ++ tail) are.0 in (
      more,
      least,
      ap (λ (l : List ℕ). writes_by (suc fuel) head place l (front_in head place l)) grouped
          ∙ ap (writes_by (suc fuel) head place (front ++ (others ++ tail)))
          (whole_front head place lines (others ++ tail) are.0)
          ∙ ap (λ (l : List ℕ). l ∷ writes_by fuel head next
          (drop (length lines + 27) (front ++ (others ++ tail)))
          (front_in head next (drop (length lines + 27) (front ++ (others ++ tail)))))
          (whole_take head place lines (others ++ tail) are.0)
          ∙ ap (λ (l : List ℕ). lines ∷ writes_by fuel head next l (front_in head next l)) behind
          ∙ ap (λ (l : List (List ℕ)). lines ∷ l) is
          ∙ ap (λ (n : ℕ). lines ∷ (writes ++ writes_by more head n tail (front_in head n tail)))
          end,
    )

pub sealed_more : (head : List ℕ) (writes : List (List ℕ)) (place : ℕ) (lines : List ℕ)
    → sealed_from head place (writes ++ lines ∷ [])
    ≡ sealed_from head place writes ++ (lines ++ seal_of head
    (place + length (sealed_from head place writes)) lines)
sealed_more head [] place lines =
    let same : place ≡ place + 0 = omega arith in
    append-nil (lines ++ seal_of head place lines)
    ∙ ap (λ (n : ℕ). lines ++ seal_of head n lines) same
sealed_more head (first ∷ writes) place lines =
    let next : ℕ = place + (length first + 27) in
    let others : List ℕ = sealed_from head next writes in
    let front : List ℕ = first ++ seal_of head place first in
    let end : next + length others ≡ place + length (front ++ others) =
    omega (
      arith,
      length-append front others,
      length-append first (seal_of head place first),
      seal_length head place first,
    ) in
    ap (λ (l : List ℕ). front ++ l) (sealed_more head writes next lines)
    ∙ ap (λ (n : ℕ). front ++ (others ++ (lines ++ seal_of head n lines))) end
    ∙ sym (append_assoc front others
    (lines ++ seal_of head (place + length (front ++ others)) lines))

-- What the front of a text is

pub record IsWhole (head : List ℕ) (place : ℕ) (text : List ℕ) (n : ℕ) : Type 0 where
  pub first : position (λ c. c == 33) text ≡ Some n
  pub some : list_any (λ c. c == 0) (take n text) ≡ false
  pub starts : starts_with ◌==◌ (drop n text) (seal_of head place (take n text)) ≡ true

never_torn : (b : Bool) (n : ℕ) → torn_if b ≡ fronts.Whole n → ⊥
never_torn true n is = absurd (cc)
never_torn false n is = absurd (cc)

same_whole : (m n : ℕ) → fronts.Whole m ≡ fronts.Whole n → m ≡ n
same_whole m n is = cc

module _ (head : List ℕ) (place : ℕ) (text : List ℕ) (n : ℕ) where
  opened : (o : Option ℕ) → position (λ c. c == 33) text ≡ o
      → front_by head place text o ≡ fronts.Whole n → IsWhole head place text n
  opened None first is = absurd (cc)
  opened (Some m) first is = by_zero (list_any (λ c. c == 0) (take m text)) refl is
    where
      by_starts : (b : Bool) → starts_with ◌==◌ (drop m text) (seal_of head place (take m text)) ≡ b
          → list_any (λ c. c == 0) (take m text) ≡ false
          → (if b then fronts.Whole m
          else torn_if (may_be (seal_of head place (take m text)) (drop m text))) ≡ fronts.Whole n
          → IsWhole head place text n
      by_starts true starts some is =
          let same : m ≡ n = same_whole m n is in
          subst (IsWhole head place text) same
          (record { first = first; some = some; starts = starts })
      by_starts false starts some is =
          absurd (never_torn (may_be (seal_of head place (take m text)) (drop m text)) n is)

      by_zero : (b : Bool) → list_any (λ c. c == 0) (take m text) ≡ b
          → (if b then torn_if (may_be (mark_of place) (drop m text))
          else if starts_with ◌==◌ (drop m text) (seal_of head place (take m text))
          then fronts.Whole m
          else torn_if (may_be (seal_of head place (take m text)) (drop m text))) ≡ fronts.Whole n
          → IsWhole head place text n
      by_zero true lost is = absurd (never_torn (may_be (mark_of place) (drop m text)) n is)
      by_zero false some is =
          by_starts (starts_with ◌==◌ (drop m text) (seal_of head place (take m text))) refl some is

  pub is_whole : front_in head place text ≡ fronts.Whole n → IsWhole head place text n
  unfolding front_in
  is_whole is = opened (position (λ c. c == 33) text) refl is

  module _ (whole : front_in head place text ≡ fronts.Whole n) where
    starts_so : drop n text ≡ seal_of head place (take n text) ++ drop 27 (drop n text)
    starts_so =
        (starts_is Decides-eqb (drop n text) (seal_of head place (take n text)) _ refl).0
        (is_whole whole).starts
        ∙ ap (λ (k : ℕ). seal_of head place (take n text) ++ drop k (drop n text))
        (seal_length head place (take n text))

    n_within : n < length text
    n_within = (position-Some (λ c. c == 33) text n 0 (is_whole whole).first).0

    pub n_length : length (take n text) ≡ n
    n_length = length-take-le n text (omega (arith, n_within))

    pub fits_in : n + 27 ≤ length text
    fits_in = omega (
      arith,
      n_within,
      length-drop n text,
      ap length starts_so,
      length-append (seal_of head place (take n text)) (drop 27 (drop n text)),
      seal_length head place (take n text),
    )

    pub split_so : text ≡ take n text ++ seal_of head place (take n text) ++ drop (n + 27) text
    split_so =
        sym (take-append-drop n text)
        ∙ ap (λ (l : List ℕ). take n text ++ l) (starts_so
        ∙ ap (λ (l : List ℕ). seal_of head place (take n text) ++ l) (drop-drop 27 n text))
        ∙ sym (append_assoc (take n text) (seal_of head place (take n text)) (drop (n + 27) text))

    pub lines_are : AreLines (take n text)
    lines_are i lt = (
      λ zero. not_both (list_any_at (λ c. c == 0) (take n text) i 0 lt
          (is_it (get_or (take n text) i 0) 0 zero)) (is_whole whole).some,
      λ mark.
          let below : i < n = omega (arith, lt, n_length) in
          not_both (is_it (get_or text i 0) 33 (sym (get_or-take n text i 0 below) ∙ mark))
          ((position-Some (λ c. c == 33) text n 0 (is_whole whole).first).2 i below),
    )
      where
        not_both : {b : Bool} → b ≡ true → b ≡ false → ⊥
        not_both is isnt = let never : true ≡ false = sym is ∙ isnt in absurd (cc)

-- the whole beginning is what stands there
pub rows_stand : (fuel : ℕ) (head : List ℕ) (place : ℕ) (text : List ℕ) (front : Front)
    → front_in head place text ≡ front
    → AreWrites (writes_by fuel head place text front)
    × (text ≡ sealed_from head place (writes_by fuel head place text front)
    ++ drop (length (sealed_from head place (writes_by fuel head place text front))) text)
rows_stand fuel head place text fronts.Torn is = (tt, refl)
rows_stand fuel head place text fronts.Damaged is = (tt, refl)
rows_stand zero head place text (fronts.Whole n) is = (tt, refl)
rows_stand (suc fuel) head place text (fronts.Whole n) is =
    let next : ℕ = place + (n + 27) in
    let rest : List ℕ = drop (n + 27) text in
    let lines : List ℕ = take n text in
    let front : List ℕ = lines ++ seal_of head place lines in
    let more : List (List ℕ) = writes_by fuel head next rest (front_in head next rest) in
    let (are, stands) = rows_stand fuel head next rest (front_in head next rest) refl in
    let at_next : next ≡ place + (length lines + 27) =
    ap (λ (k : ℕ). place + (k + 27)) (sym (n_length head place text n is)) in
    let others : List ℕ = sealed_from head (place + (length lines + 27)) more in
    let sized : length front ≡ n + 27 = omega (
      arith,
      length-append lines (seal_of head place lines),
      seal_length head place lines,
      n_length head place text n is,
    ) in
    let whole : text ≡ front ++ (others ++ drop (length others) rest) =
    split_so head place text n is
    ∙ ap (λ (l : List ℕ). front ++ l) (subst (λ (k : ℕ). rest ≡ sealed_from head k more
    ++ drop (length (sealed_from head k more)) rest) at_next stands) in
    let left : drop (length others) rest ≡ drop (length (front ++ others)) text =
    drop-drop (length others) (n + 27) text
    ∙ ap (λ (k : ℕ). drop k text)
    (let e : n + 27 + length others ≡ length (front ++ others) =
    omega (arith, sized, length-append front others) in e) in (
      (lines_are head place text n is, are),
      whole ∙ sym (append_assoc front others (drop (length others) rest))
          ∙ ap (λ (l : List ℕ). front ++ others ++ l) left,
    )
