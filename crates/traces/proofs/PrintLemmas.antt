-- What is printed, octet by octet.
use borrow.Rule.Slice.PartMut.{put_mid, same_len_mid}
use Rattle.std.proofs.Common.{◌≡◌, ℕ, zero, suc, ◌+◌, ◌-◌, ◌*◌, ◌/◌, ◌%◌, ◌<◌, ◌≤◌, List, [], ◌∷◌}
use Rattle.std.proofs.Common.{◌++◌, length, take, drop, slice_index, slice_set, refl, sym, ap, ◌∙◌}
use Rattle.std.proofs.Common.{arith, length-append, length-drop, zero-add, ◌≢◌, get_or, map}
use Rattle.std.proofs.Common.{below_more, get_or-set_other, get_or-set_same}
use Rattle.std.specs.Prelude.{bit_and}
use Rattle.std.specs.List.{range_with_len}
use Rattle.std.proofs.Math.Seq.{take-append-add}
use Rattle.std.proofs.lemmas.List.{length-take-le, take_more_set, take-append-le}
use Rattle.std.proofs.lemmas.Slice.{take-put_mid}
use Rattle.std.proofs.lemmas.List.FromFn.{get_or-range_with_len, length-range_with_len}
use Rattle.std.proofs.lemmas.List.FromFn.{get_or-map-range_with_len}
use Rattle.hex.specs.Hex.{encode_upper, encode_with, upper_digits}
use Rattle.hex.proofs.Pairs.{encode_step}
use Rattle.traces.specs.Spelling.{IsSpelledTo}
use Rattle.traces.specs.declared.printing.TheConstants.{PAIRS}

-- what stands in a part of a row leaves its length
put_length : (i k : ℕ) (row part : List ℕ) → i + k ≤ length row → length part ≡ k
    → length (put_mid i k row part) ≡ length row
put_length i k row part within len =
    same_len_mid i k row part
    (len ∙ sym (length-take-le k (drop i row) (omega (arith, length-drop i row, within))))

-- a line of three parts and its end, each put where the one before ends; so many octets of the
-- first are of the line
pub line_put : (row first_part letter octets : List ℕ) (a m n : ℕ) → length first_part ≡ 20 → a ≤ 20
    → length letter ≡ m → length octets ≡ n → a + m + n < length row → 20 ≤ length row
    → take (a + m + n + 1) (slice_set (put_mid (a + m) (a + m + n - (a + m))
    (put_mid a (a + m - a) (first_part ++ drop 20 row) letter) octets) (a + m + n) 10)
    ≡ take a first_part ++ letter ++ octets ++ 10 ∷ []
line_put row first_part letter octets a m n long short middling many room whole =
    let digits : List ℕ = take a first_part in
    let first : List ℕ = first_part ++ drop 20 row in
    let first_len : length first ≡ length row =
    omega (arith, length-append first_part (drop 20 row), length-drop 20 row, long, whole) in
    let second : List ℕ = put_mid a (a + m - a) first letter in
    let second_len : length second ≡ length row =
    put_length a (a + m - a) first letter (omega (arith, first_len, room)) (omega (arith, middling))
    ∙ first_len in
    let third : List ℕ = put_mid (a + m) (a + m + n - (a + m)) second octets in
    let third_len : length third ≡ length row =
    put_length (a + m) (a + m + n - (a + m)) second octets (omega (arith, second_len, room))
    (omega (arith, many))
    ∙ second_len in
    let start : take a first ≡ digits =
    take-append-le a first_part (drop 20 row) (omega (arith, long, short)) in
    let middle : take (a + m) second ≡ digits ++ letter =
    take-put_mid a (a + m - a) first letter (a + m) (omega (arith, middling))
    (omega (arith, first_len, room))
    ∙ ap (λ l. l ++ letter) start in
    let most : take (a + m + n) third ≡ (digits ++ letter) ++ octets =
    take-put_mid (a + m) (a + m + n - (a + m)) second octets (a + m + n) (omega (arith, many))
    (omega (arith, second_len, room)) ∙ ap (λ l. l ++ octets) middle in
    take_more_set third (a + m + n) 10 (omega (arith, third_len, room))
    ∙ ap (λ l. l ++ 10 ∷ []) most

-- what is put behind octets that were put
pub put_behind : (room line rest more : List ℕ) (end count : ℕ) → end ≤ length room
    → take count line ≡ more
    → count ≤ length line → take (end + count) (take end room ++ (line ++ rest))
    ≡ take end room ++ more
put_behind room line rest more end count within is most =
    let len : length (take end room) ≡ end = length-take-le end room within in
    ap (λ (i : ℕ). take (i + count) (take end room ++ (line ++ rest))) (sym len)
    ∙ take-append-add (take end room) (line ++ rest) count
    ∙ ap (λ l. take end room ++ l) (take-append-le count line rest most ∙ is)

-- The table of pairs

-- it is each octet in hexadecimal
table_is : PAIRS ≡ encode_upper (range_with_len 0 256)
unfolding encode_with
table_is = refl

-- the digits of the octet at a place
pair_in : (octets : List ℕ) (i : ℕ) → i < length octets →
    (slice_index (encode_upper octets) (2 * i)
    ≡ slice_index upper_digits (slice_index octets i / 16))
    × (slice_index (encode_upper octets) (2 * i + 1)
    ≡ slice_index upper_digits (slice_index octets i % 16))
unfolding encode_with
pair_in [] i lt = absurd (omega (arith, lt))
pair_in (b ∷ octets) zero lt = (refl, refl)
pair_in (b ∷ octets) (suc i) lt =
    let rest = pair_in octets i (omega (arith, lt)) in
    let high : 2 * suc i ≡ suc (suc (2 * i)) = omega arith in
    let low : 2 * suc i + 1 ≡ suc (suc (2 * i + 1)) = omega arith in (rw high rest.0, rw low rest.1)

pub pair_at : (b : ℕ) → b < 256 →
    (slice_index PAIRS (2 * b) ≡ slice_index upper_digits (b / 16))
    × (slice_index PAIRS (2 * b + 1) ≡ slice_index upper_digits (b % 16))
pair_at b lt =
    let pair = pair_in (range_with_len 0 256) b (omega (arith, lt, length-range_with_len 0 256)) in
    let same : slice_index (range_with_len 0 256) b ≡ b = get_or-range_with_len 0 256 b 0 lt
    ∙ zero-add b in (
      ap (λ t. slice_index t (2 * b)) table_is ∙ pair.0
          ∙ ap (λ n. slice_index upper_digits (n / 16)) same,
      ap (λ t. slice_index t (2 * b + 1)) table_is ∙ pair.1
          ∙ ap (λ n. slice_index upper_digits (n % 16)) same,
    )

-- The digits by arithmetic

-- a number of 16 bits has the digits of an octet, the first one in its low octet
abbrev pub HasDigits : (octet pair : ℕ) → Type 0
HasDigits octet pair = (pair % 256 ≡ slice_index upper_digits (octet / 16))
    × (pair / 256 ≡ slice_index upper_digits (octet % 16))

-- by arithmetic, from the values of the two digits
abbrev by_values : (high low : ℕ) → ℕ
by_values high low =
    high + 256 * low + 12336 + 7 * bit_and ((high + 256 * low + 1542) / 16) 257

each_first : map (λ b. by_values (b / 16) (b % 16) % 256) (range_with_len 0 256)
    ≡ map (λ b. slice_index upper_digits (b / 16)) (range_with_len 0 256)
each_first = refl

each_second : map (λ b. by_values (b / 16) (b % 16) / 256) (range_with_len 0 256)
    ≡ map (λ b. slice_index upper_digits (b % 16)) (range_with_len 0 256)
each_second = refl

-- what is so of each octet is so of one
of_each : (f g : ℕ → ℕ) (b : ℕ) → b < 256
    → map f (range_with_len 0 256) ≡ map g (range_with_len 0 256) → f b ≡ g b
of_each f g b lt same =
    sym (get_or-map-range_with_len f 0 256 b b 0 lt (zero-add b))
    ∙ ap (λ l. get_or l b 0) same
    ∙ get_or-map-range_with_len g 0 256 b b 0 lt (zero-add b)

pub digits_of_values : (b high low : ℕ) → b < 256 → high ≡ b / 16 → low ≡ b % 16 → HasDigits b
    (high + 256 * low + 12336 + 7 * bit_and ((high + 256 * low + 1542) / 16) 257)
digits_of_values b high low lt first second =
    rw (first, second) (
      of_each (λ b. by_values (b / 16) (b % 16) % 256) (λ b. slice_index upper_digits (b / 16)) b
          lt each_first,
      of_each (λ b. by_values (b / 16) (b % 16) / 256) (λ b. slice_index upper_digits (b % 16)) b
          lt each_second,
    )

-- one octet more of a block
pub digits_more : (octets pairs : List ℕ) (from i pair : ℕ) → i < length pairs
    → HasDigits (slice_index octets (from + i)) pair
    → ((k : ℕ) → k < i → HasDigits (slice_index octets (from + k)) (get_or pairs k 0))
    → (k : ℕ) → k < i + 1
    → HasDigits (slice_index octets (from + k)) (get_or (slice_set pairs i pair) k 0)
digits_more octets pairs from i pair room is so_far =
    below_more _ _ (λ k lt. let ne : k ≢ i = omega arith in rw get_or-set_other (so_far k lt))
    (rw get_or-set_same is)

-- its digits are put
pub block_more : (octets out : List ℕ) (from i pair : ℕ) → from + i < length octets
    → 2 * (from + i) + 1 < length out → HasDigits (slice_index octets (from + i)) pair
    → IsSpelledTo octets out (from + i)
    → IsSpelledTo octets (slice_set (slice_set out (2 * (from + i)) (pair % 256))
    (2 * (from + i) + 1) (pair / 256)) (from + (i + 1))
block_more octets out from i pair lt room is so_far =
    let place : from + (i + 1) ≡ from + i + 1 = omega arith in
    rw place (encode_step upper_digits octets out (from + i) (pair % 256) (pair / 256) lt room is.0
    is.1 so_far)
