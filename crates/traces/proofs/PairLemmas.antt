-- Pairs of digits, decoded as far as they go, and the line that ends behind them or doesn't.
use Rattle.std.proofs.Common.{◌≡◌, ◌≢◌, ℕ, ◌+◌, ◌*◌, ◌%◌, ◌^◌, ◌<◌, ◌≤◌, ◌==◌, ◌&&◌, nat_le, Bool}
use Rattle.std.proofs.Common.{true, false, List, [], ◌∷◌, ◌++◌, length, take, drop, Option, Some}
use Rattle.std.proofs.Common.{None, is_some, unwrap_or, Result, Ok, Err, ◌⊎◌, inl, inr}
use Rattle.std.proofs.Common.{if◌then◌else◌, refl, ap, sym, ◌∙◌, append_assoc, length-append, arith}
use Rattle.std.proofs.Common.{get_or, below_more, get_or-set_other, get_or-set_same}
use Rattle.std.specs.Prelude.{bit_or, nat_lt, option_map, slice_index, slice_set}
use Rattle.std.specs.List.{list_all}
use Rattle.std.proofs.lemmas.Bool.{and_parts, cases_lt, eqb-true, lt-ltb, ltb-true}
use Rattle.std.proofs.lemmas.List.{append-nil, length-take-le, take_more, take_more_set}
use Rattle.std.proofs.lemmas.List.{take-append-drop}
use Rattle.std.proofs.lemmas.Nat.{or_shifted}
use Rattle.std.proofs.lemmas.List.Folds.{list_all_more}
use Rattle.std.proofs.lemmas.List.Sums.{list_all-from_AllPass}
use Rattle.hex.specs.Hex.{decode_pairs, hex_digit_value, is_hex_digit}
use Rattle.hex.specs.declared.error.FromHexError.{FromHexError}
use Rattle.hex.proofs.HexLemmas.{decode_pairs-ok}
use Rattle.hex.proofs.Pairs.{prepend, prepend-cons_byte, decode_pairs-ok_pair}
use Rattle.traces.specs.Fields.{octets_of}
use Rattle.traces.specs.FirstLines.{ArePairs, DigitsEnd, IsPair, Paired, first_line, first_of}
use Rattle.traces.specs.Trace.{lines_of}
use Rattle.traces.proofs.DigitLineLemmas.{line_whole, line_ended, line_other, no_feeds}
use Rattle.traces.proofs.FirstLineLemmas.{lines_behind}
use Rattle.traces.proofs.OctetLemmas.{bits_below, octets_decoded, pair_is, value_small}
use Rattle.traces.proofs.OctetLemmas.{wrong_length}

-- the number of two digits' values
pub pair_of_values : (a b high low : ℕ)
    → option_map (λ v. 16 * v) (hex_digit_value a) ≡ (if nat_lt high 256 then Some high else None)
    → hex_digit_value b ≡ (if nat_lt low 256 then Some low else None) → IsPair a b (bit_or high low)
pair_of_values a b high low first second =
    by (hex_digit_value a) (hex_digit_value b) (nat_lt high 256) (nat_lt low 256) refl refl refl
    refl first second
  where
    none : nat_lt (bit_or high low) 256 ≡ false → (is_hex_digit a && is_hex_digit b) ≡ false
        → IsPair a b (bit_or high low)
    none great other = record {
      both = great ∙ sym other;
      octet = λ lt. let odd : true ≡ false = sym (lt-ltb (bit_or high low) 256 lt) ∙ great in
          absurd (cc);
    }

    by : (x y : Option ℕ) (m n : Bool) → hex_digit_value a ≡ x → hex_digit_value b ≡ y
        → nat_lt high 256 ≡ m
        → nat_lt low 256 ≡ n → option_map (λ v. 16 * v) x ≡ (if m then Some high else None)
        → y ≡ (if n then Some low else None) → IsPair a b (bit_or high low)
    by None y true n e f g h first second = cc first
    by (Some v) y false n e f g h first second = cc first
    by x None m true e f g h first second = cc second
    by x (Some w) m false e f g h first second = cc second
    by None y false n e f g h first second =
        none (bits_below high low ∙ ap (λ m. m && nat_lt low 256) g)
        (ap (λ o. is_some o && is_hex_digit b) e)
    by (Some v) None true false e f g h first second =
        none (bits_below high low ∙ ap (λ m. m && nat_lt low 256) g ∙ h)
        (ap (λ o. is_some o && is_hex_digit b) e ∙ ap is_some f)
    by (Some v) (Some w) true true e f g h first second =
        let high_is : v * 16 ≡ high =
        omega (arith, ap (λ (o : Option ℕ). unwrap_or o 0) first) in
        let low_is : w ≡ low = ap (λ (o : Option ℕ). unwrap_or o 0) second in
        let small : w < 2 ^ 4 = value_small b w f in
        let is : v * 16 + w ≡ bit_or high low =
        rw (← high_is, ← low_is) (sym (or_shifted v 4 w small)) in
        record {
          both = bits_below high low ∙ ap (λ m. m && nat_lt low 256) g ∙ h
              ∙ sym (ap (λ o. is_some o && is_hex_digit b) e ∙ ap is_some f);
          octet = λ lt i. pair_is a b i v w e f ∙ ap Ok is;
        }

-- one pair more
pub pairs_more : (text buf : List ℕ) (i octet : ℕ) → 2 * i + 1 < length text → i < length buf
    → IsPair (slice_index text (2 * i)) (slice_index text (2 * i + 1)) octet → octet < 256
    → Paired text buf i → Paired text (slice_set buf i octet) (i + 1)
pairs_more text buf i octet lt room is small so_far rest =
    let a : ℕ = slice_index text (2 * i) in
    let b : ℕ = slice_index text (2 * i + 1) in
    let two : 2 * (i + 1) ≡ 2 * i + 1 + 1 = omega arith in
    let next : 2 * i + 2 ≡ 2 * (i + 1) = omega arith in
    let taken : take (2 * (i + 1)) text ++ rest ≡ take (2 * i) text ++ (a ∷ b ∷ rest) =
    ap (λ (n : ℕ). take n text ++ rest) two
    ∙ ap (λ l. l ++ rest) (take_more text (2 * i + 1) 0 lt
    ∙ ap (λ l. l ++ b ∷ []) (take_more text (2 * i) 0 (omega (arith, lt))))
    ∙ append_assoc (take (2 * i) text ++ a ∷ []) (b ∷ []) rest
    ∙ append_assoc (take (2 * i) text) (a ∷ []) (b ∷ rest) in
    ap (decode_pairs 0) taken ∙ so_far (a ∷ b ∷ rest)
    ∙ ap (prepend (take i buf)) (decode_pairs-ok_pair (2 * i) a b octet rest
    (is.octet small (2 * i)))
    ∙ prepend-cons_byte (take i buf) octet (decode_pairs (2 * i + 2) rest)
    ∙ ap (λ l. prepend l (decode_pairs (2 * i + 2) rest)) (sym (take_more_set buf i octet room))
    ∙ ap (λ (n : ℕ). prepend (take (i + 1) (slice_set buf i octet)) (decode_pairs n rest)) next

-- what stands behind them in the buffer is nothing to them
pub pairs_same : (text buf other : List ℕ) (n : ℕ) → take n other ≡ take n buf → Paired text buf n
    → Paired text other n
pairs_same text buf other n same so_far rest =
    so_far rest ∙ ap (λ l. prepend l (decode_pairs (2 * n) rest)) (sym same)

-- one more in a block, whose octets mean something if all were of digits
pub block_more : (text buf : List ℕ) (from i n bits : ℕ) → 2 * (from + i) + 1 < length text
    → from + i < length buf
    → IsPair (slice_index text (2 * (from + i))) (slice_index text (2 * (from + i) + 1)) n
    → bit_or bits n < 256
    → (bits < 256 → Paired text buf (from + i))
    → Paired text (slice_set buf (from + i) (n % 256)) (from + (i + 1))
block_more text buf from i n bits lt room is small so_far =
    let all : (nat_lt bits 256 && nat_lt n 256) ≡ true =
    sym (bits_below bits n) ∙ lt-ltb (bit_or bits n) 256 small in
    let both = and_parts (nat_lt bits 256) (nat_lt n 256) all in
    let octet : n < 256 = ltb-true n 256 both.1 in
    let same : n % 256 ≡ n = omega (arith, octet) in
    let place : from + (i + 1) ≡ from + i + 1 = omega arith in
    rw (same, place) (pairs_more text buf (from + i) n lt room is octet
    (so_far (ltb-true bits 256 both.0)))

-- ---- A wide block

-- the value of one digit more
pub value_more : (text values : List ℕ) (from i v : ℕ) (are is : Bool) → i < length values
    → is ≡ is_hex_digit (slice_index text (2 * from + i))
    → (is_hex_digit (slice_index text (2 * from + i)) ≡ true
    → hex_digit_value (slice_index text (2 * from + i)) ≡ Some v)
    → (are ≡ true → (k : ℕ) → k < i → hex_digit_value (get_or text (2 * from + k) 0)
    ≡ Some (get_or values k 0))
    → (are && is) ≡ true → (k : ℕ) → k < i + 1
    → hex_digit_value (get_or text (2 * from + k) 0) ≡ Some (get_or (slice_set values i v) k 0)
value_more text values from i v are is room same digit known all =
    let both = and_parts are is all in
    below_more _ _
    (λ k lt. let ne : k ≢ i = omega arith in rw get_or-set_other (known both.0 k lt))
    (rw get_or-set_same (digit (sym same ∙ both.1)))

-- values below 16 stay so
pub small_more : (values : List ℕ) (i v : ℕ) → i < length values → v < 16
    → ((k : ℕ) → k < i → get_or values k 0 < 16) → (k : ℕ) → k < i + 1
    → get_or (slice_set values i v) k 0 < 16
small_more values i v room low small =
    below_more _ _ (λ k lt. let ne : k ≢ i = omega arith in rw get_or-set_other (small k lt))
    (rw get_or-set_same low)

-- one pair more, of which the values are known
pub wide_more : (text buf : List ℕ) (from i high low : ℕ) → 2 * (from + i) + 1 < length text
    → from + i < length buf
    → hex_digit_value (get_or text (2 * from + 2 * i) 0) ≡ Some high
    → hex_digit_value (get_or text (2 * from + (2 * i + 1)) 0) ≡ Some low → high < 16 → low < 16
    → Paired text buf (from + i) → Paired text (slice_set buf (from + i) (16 * high + low))
    (from + (i + 1))
wide_more text buf from i high low lt room first second high_small low_small so_far =
    let a : ℕ = slice_index text (2 * (from + i)) in
    let b : ℕ = slice_index text (2 * (from + i) + 1) in
    let at : 2 * (from + i) ≡ 2 * from + 2 * i = omega arith in
    let behind : 2 * (from + i) + 1 ≡ 2 * from + (2 * i + 1) = omega arith in
    let e : hex_digit_value a ≡ Some high = ap (λ j. hex_digit_value (get_or text j 0)) at
    ∙ first in
    let f : hex_digit_value b ≡ Some low = ap (λ j. hex_digit_value (get_or text j 0)) behind
    ∙ second in
    let n : ℕ = 16 * high + low in
    let small : n < 256 = omega arith in
    let is : IsPair a b n = record {
      both = lt-ltb n 256 small ∙ sym (ap (λ o. is_some o && is_hex_digit b) e ∙ ap is_some f);
      octet = λ fits j. pair_is a b j high low e f ∙ ap Ok (omega arith);
    } in
    let place : from + (i + 1) ≡ from + i + 1 = omega arith in
    rw place (pairs_more text buf (from + i) n lt room is small so_far)

pub pairs_done : (text buf : List ℕ) (n : ℕ) → Paired text buf n
    → decode_pairs 0 (take (2 * n) text) ≡ Ok (take n buf)
unfolding decode_pairs
pairs_done text buf n all =
    ap (decode_pairs 0) (sym (append-nil (take (2 * n) text))) ∙ all []
    ∙ ap Ok (append-nil (take n buf))

-- if no pair behind these is of digits, or there is no room, these are all
pub pairs_are : (text buf : List ℕ) (n : ℕ) → 2 * n ≤ length text → n ≤ 1024
    → (n < 1024 → 2 * n + 1 < length text
    → (is_hex_digit (slice_index text (2 * n)) && is_hex_digit (slice_index text (2 * n + 1)))
    ≡ false)
    → Paired text buf n → ArePairs text buf n
pairs_are text buf n within most over pairs =
    record { within = within; most = most; octets = pairs_done text buf n pairs; over = over }

-- The line

are_digits : (text buf : List ℕ) (n : ℕ) → ArePairs text buf n
    → list_all is_hex_digit (take (2 * n) text) ≡ true
are_digits text buf n are =
    list_all-from_AllPass is_hex_digit (take (2 * n) text)
    (decode_pairs-ok 0 (take (2 * n) text) (take n buf) are.octets).0

-- digits behind which the line ends are its octets
pub line_octets : (text buf : List ℕ) (n : ℕ) → ArePairs text buf n → 1 ≤ n → first_line text
    ≡ take (2 * n) text
    → octets_of (first_line text) ≡ Some (take n buf)
line_octets text buf n are some line =
    let len : length (take (2 * n) text) ≡ 2 * n = length-take-le (2 * n) text are.within in
    ap octets_of line ∙ octets_decoded (take (2 * n) text) (take n buf) (may _ n len some are.most)
    are.octets
  where
    may : (m n : ℕ) → m ≡ 2 * n → 1 ≤ n → n ≤ 1024 → (m % 2 == 0 && nat_le 2 m && nat_le m 2048)
        ≡ true
    may m n twice some most = let even : m % 2 ≡ 0 = omega (arith, twice) in grind arith

pub line_is_whole : (text buf : List ℕ) (n : ℕ) → ArePairs text buf n → 2 * n ≡ length text
    → lines_of text ≡ text ∷ []
line_is_whole text buf n are all =
    (line_whole text (2 * n) (record {
      within = are.within;
      digits = are_digits text buf n are;
      over = λ lt. absurd (omega (arith, lt, all));
    }) all).0

pub line_is_ended : (text buf : List ℕ) (n : ℕ) → ArePairs text buf n → 2 * n < length text
    → slice_index text (2 * n) ≡ 10 → lines_of text ≡ take (2 * n) text
    ∷ lines_of (drop (2 * n + 1) text)
line_is_ended text buf n are lt feed =
    line_ended text (2 * n) (record {
      within = are.within;
      digits = are_digits text buf n are;
      over = λ less. ap is_hex_digit feed;
    }) lt feed

-- an odd number of digits, or too many, are no octets
pub odd_digits : (xs : List ℕ) (n : ℕ) → length xs ≡ 2 * n + 1 → octets_of xs ≡ None
odd_digits xs n len = wrong_length xs (by (length xs) n len)
  where
    by : (m n : ℕ) → m ≡ 2 * n + 1 → (m % 2 == 0 && nat_le 2 m && nat_le m 2048) ≡ false
    by m n len = let odd : m % 2 ≡ 1 = omega (arith, len) in grind arith

pub long_digits : (xs : List ℕ) → 2048 < length xs → octets_of xs ≡ None
long_digits xs len = wrong_length xs (by (length xs) len)
  where
    by : (m : ℕ) → 2048 < m → (m % 2 == 0 && nat_le 2 m && nat_le m 2048) ≡ false
    by m len =
        let far : nat_le m 2048 ≡ false = grind arith in
        last (m % 2 == 0) (nat_le 2 m) (nat_le m 2048) far
      where
        last : (a b c : Bool) → c ≡ false → (a && b && c) ≡ false
        last true true c e = e
        last true false c e = refl
        last false b c e = refl

-- if the line goes on behind the pairs, it isn't octets
pub line_goes_on : (text buf : List ℕ) (n : ℕ) → ArePairs text buf n → 2 * n < length text
    → slice_index text (2 * n) ≢ 10 → octets_of (first_line text) ≡ None
line_goes_on text buf n are lt other = by (is_hex_digit (slice_index text (2 * n))) refl
  where
    e : ℕ
    e = 2 * n

    digits : list_all is_hex_digit (take e text) ≡ true
    digits = are_digits text buf n are

    ended : DigitsEnd text (e + 1) → e + 1 < length text → (feed : Bool)
        → (slice_index text (e + 1) == 10) ≡ feed
        → octets_of (first_line text) ≡ None
    ended ends less true is =
        ap (λ lines. octets_of (first_of lines))
        (line_ended text (e + 1) ends less (eqb-true _ 10 is))
        ∙ odd_digits (take (e + 1) text) n (length-take-le (e + 1) text (omega (arith, less)))
    ended ends less false is = line_other text (e + 1) ends less (λ same. cc)

    long : 1024 ≤ n → list_all is_hex_digit (take (e + 1) text) ≡ true → octets_of (first_line text)
        ≡ None
    long many all =
        let front : List ℕ = take (e + 1) text in
        let rest : List ℕ = drop (e + 1) text in
        let line : first_line text ≡ front ++ first_line rest =
        ap first_of (ap lines_of (sym (take-append-drop (e + 1) text))
        ∙ lines_behind front rest (no_feeds front all)) in
        let len : length front ≡ e + 1 = length-take-le (e + 1) text (omega (arith, lt)) in
        ap octets_of line
        ∙ long_digits (front ++ first_line rest)
        (omega (arith, length-append front (first_line rest), len, many))

    odd : list_all is_hex_digit (take (e + 1) text) ≡ true → is_hex_digit (slice_index text e)
        ≡ true
        → (e + 1 < length text) ⊎ (length text ≤ e + 1) → (n < 1024) ⊎ (1024 ≤ n)
        → octets_of (first_line text) ≡ None
    odd all digit (inl less) (inl few) =
        let over : is_hex_digit (slice_index text (e + 1)) ≡ false =
        ap (λ (d : Bool). d && is_hex_digit (slice_index text (e + 1))) (sym digit)
        ∙ are.over few less in
        ended (record { within = omega (arith, less); digits = all; over = λ l. over }) less
        (slice_index text (e + 1) == 10) refl
    odd all digit (inl less) (inr many) = long many all
    odd all digit (inr most) fits =
        let whole : e + 1 ≡ length text = omega (arith, lt, most) in
        let ends : DigitsEnd text (e + 1) =
        record {
          within = omega (arith, whole);
          digits = all;
          over =
              λ l. absurd (omega (arith, l, whole));
        } in
        ap (λ lines. octets_of (first_of lines)) (line_whole text (e + 1) ends whole).0
        ∙ odd_digits text n (sym whole)

    by : (d : Bool) → is_hex_digit (slice_index text (2 * n)) ≡ d → octets_of (first_line text)
        ≡ None
    by false none =
        line_other text (2 * n) (record { within = are.within; digits = digits; over = λ l. none })
        lt other
    by true digit =
        odd (list_all_more is_hex_digit text e 0 lt ∙ rw digits digit) digit
        (cases_lt (e + 1) (length text))
        (cases_lt n 1024)

-- nor is it if there is no pair
pub no_pair : (text buf : List ℕ) → ArePairs text buf 0 → octets_of (first_line text) ≡ None
no_pair text buf are = by (cases_lt 0 (length text)) (slice_index text 0 == 10) refl
  where
    none : (lines : List (List ℕ)) → lines_of text ≡ [] ∷ lines → octets_of (first_line text) ≡ None
    none lines is = ap (λ ls. octets_of (first_of ls)) is ∙ wrong_length [] refl

    empty : (xs : List ℕ) → length xs ≤ 0 → lines_of xs ≡ [] ∷ []
    empty [] few = refl
    empty (x ∷ xs) few = absurd (omega (arith, few))

    by : (0 < length text) ⊎ (length text ≤ 0) → (feed : Bool) → (slice_index text 0 == 10) ≡ feed
        → octets_of (first_line text) ≡ None
    by (inl lt) true is = none _ (line_is_ended text buf 0 are lt (eqb-true _ 10 is))
    by (inl lt) false is = line_goes_on text buf 0 are lt (λ same. cc)
    by (inr few) feed is = none [] (empty text few)
