-- Octets in hexadecimal: when they are right, and how many they are.
use Rattle.std.proofs.Common.{◌≡◌, ℕ, zero, suc, nat_eq, get_or, min, unwrap_or, inl, inr, ◌+◌, ◌-◌}
use Rattle.std.proofs.Common.{◌<◌, ◌*◌, ◌/◌, ◌%◌, ◌≤◌, nat_le, ◌&&◌, Bool, true, false, List}
use Rattle.std.proofs.Common.{length, slice_index, Option, Some, None, Result, Ok, Err, is_some}
use Rattle.std.proofs.Common.{if◌then◌else◌, refl, sym, ap, ◌∙◌, arith, take, drop, ◌^◌, ◌==◌}
use Rattle.std.specs.Prelude.{bit_or, nat_lt, option_map}
use Rattle.std.specs.List.{list_all}
use Rattle.std.proofs.lemmas.Bool.{and_parts, cases_eq, eqb-true, lt-ltb, ltb-true}
use Rattle.std.proofs.Math.Seq.{take-add}
use Rattle.std.proofs.lemmas.List.Folds.{list_all-append}
use Rattle.std.proofs.lemmas.List.Sums.{AllPass-from_list_all, list_all-from_AllPass}
use Rattle.std.proofs.lemmas.Nat.{le_or_l, le_or_r, or_lt}
use Rattle.hex.specs.Hex.{decode_of, decode_pairs, hex_digit_value, is_hex_digit, pair_value}
use Rattle.hex.specs.declared.error.FromHexError.{FromHexError}
use Rattle.hex.proofs.HexLemmas.{decode_of-even, decode_of-ok, decode_of-digits}
use Rattle.traces.specs.Fields.{some_octets, octets_of}

-- octets that are right
pub record AreOctets (text octets : List ℕ) : Type 0 where
  pub decoded : decode_of text ≡ Ok octets
  pub twice : length text ≡ 2 * length octets
  pub some : 1 ≤ length octets
  pub most : length octets ≤ 1024

pub are_octets : (text octets : List ℕ) → octets_of text ≡ Some octets → AreOctets text octets
are_octets text octets is = by (decode_of text) refl is
  where
    within : (os : List ℕ) → (b : Bool) → (nat_le 1 (length os) && nat_le (length os) 1024) ≡ b
        → (if b then Some os else None) ≡ Some octets → (os ≡ octets) × (1 ≤ length os)
        × (length os ≤ 1024)
    within os true fits same = let one : os ≡ octets = cc in (one, grind arith, grind arith)
    within os false fits same = cc

    by : (r : Result (List ℕ) FromHexError) → decode_of text ≡ r → some_octets r ≡ Some octets
        → AreOctets text octets
    by (Ok os) e same =
        let is = within os _ refl same in
        let decoded : decode_of text ≡ Ok octets = e ∙ ap Ok is.0 in record {
          decoded = decoded;
          twice = (decode_of-ok text octets decoded).2;
          some = rw (← is.0) is.1;
          most = rw (← is.0) is.2;
        }
    by (Err fault) e same = cc

-- so many digits may be octets
abbrev pub may_be_octets : List ℕ → Bool
may_be_octets text = length text % 2 == 0 && nat_le 2 (length text) && nat_le (length text) 2048

-- a text of a wrong length isn't octets
pub wrong_length : (text : List ℕ) → may_be_octets text ≡ false → octets_of text ≡ None
wrong_length text wrong = by (octets_of text) refl
  where
    by : (o : Option (List ℕ)) → octets_of text ≡ o → o ≡ None
    by None e = refl
    by (Some octets) e =
        let are = are_octets text octets e in
        let twice = are.twice in
        let some = are.some in
        let most = are.most in
        let odd : true ≡ false = may (length text) (length octets) twice some most wrong in
        absurd (cc)
      where
        may : (n m : ℕ) → n ≡ 2 * m → 1 ≤ m → m ≤ 1024 → (n % 2 == 0 && nat_le 2 n && nat_le n 2048)
            ≡ false
            → true ≡ false
        may n m twice some most wrong =
            let even : n % 2 ≡ 0 = omega arith in
            let right : (n % 2 == 0 && nat_le 2 n && nat_le n 2048) ≡ true = grind arith in
            sym right ∙ wrong

record MayBe (n : ℕ) : Type 0 where
  even : n % 2 ≡ 0
  some : 2 ≤ n
  most : n ≤ 2048

may_be : (n : ℕ) → (n % 2 == 0 && nat_le 2 n && nat_le n 2048) ≡ true → MayBe n
may_be n is = record { even = grind arith; some = grind arith; most = grind arith }

-- what its pairs decode to
pub octets_decoded : (text out : List ℕ) → may_be_octets text ≡ true → decode_pairs 0 text ≡ Ok out
    → octets_of text ≡ Some out
octets_decoded text out may decoded =
    let is = may_be (length text) may in
    let both : decode_of text ≡ Ok out = decode_of-even text is.even ∙ decoded in
    let twice = (decode_of-ok text out both).2 in
    let some : 1 ≤ length out = omega (arith, twice, is.some) in
    let most : length out ≤ 1024 = omega (arith, twice, is.most) in
    let fits : (nat_le 1 (length out) && nat_le (length out) 1024) ≡ true = grind arith in
    ap some_octets both ∙ ap (λ (b : Bool). if b then Some out else None) fits

-- of a right length it is octets if each of them is a digit
pub digits_right : (text : List ℕ) → may_be_octets text ≡ true → list_all is_hex_digit text
    ≡ is_some (octets_of text)
digits_right text may = by (list_all is_hex_digit text) refl
  where
    none : (o : Option (List ℕ)) → octets_of text ≡ o → list_all is_hex_digit text ≡ false
        → is_some o ≡ false
    none None e all = refl
    none (Some octets) e all =
        let are = are_octets text octets e in
        let pass = (decode_of-ok text octets are.decoded).1 in
        let yes : list_all is_hex_digit text ≡ true =
        list_all-from_AllPass is_hex_digit text pass in
        cc

    by : (b : Bool) → list_all is_hex_digit text ≡ b → b ≡ is_some (octets_of text)
    by true all =
        let even = (may_be (length text) may).even in
        let found = decode_of-digits text even (AllPass-from_list_all is_hex_digit text all) in
        let decoded : decode_pairs 0 text ≡ Ok found.0 = sym (decode_of-even text even) ∙ found.1 in
        sym (ap is_some (octets_decoded text found.0 may decoded))
    by false all = sym (none (octets_of text) refl all)

-- a text with another octet isn't octets
pub other_octet : (text : List ℕ) (k : ℕ) → k < length text → is_hex_digit (slice_index text k)
    ≡ false
    → octets_of text ≡ None
other_octet text k lt other = by (octets_of text) refl
  where
    by : (o : Option (List ℕ)) → octets_of text ≡ o → o ≡ None
    by None e = refl
    by (Some octets) e =
        let are = are_octets text octets e in
        let pass = (decode_of-ok text octets are.decoded).1 k 0 lt in
        let odd : true ≡ false = sym pass ∙ other in
        absurd (cc)

-- the bits of several numbers are those of an octet if each is one
pub bits_below : (bits value : ℕ) → nat_lt (bit_or bits value) 256
    ≡ (nat_lt bits 256 && nat_lt value 256)
bits_below bits value = by (nat_lt bits 256) (nat_lt value 256) (nat_lt (bit_or bits value) 256)
    refl refl refl
  where
    by : (x y z : Bool) → nat_lt bits 256 ≡ x → nat_lt value 256 ≡ y
        → nat_lt (bit_or bits value) 256 ≡ z → z ≡ (x && y)
    by true true true e f g = refl
    by true true false e f g =
        let low : bit_or bits value < 2 ^ 8 =
        or_lt 8 bits value (ltb-true bits 256 e) (ltb-true value 256 f) in
        absurd (grind arith)
    by true false false e f g = refl
    by true false true e f g =
        let low = ltb-true (bit_or bits value) 256 g in
        let below : value < 256 = omega (arith, low, le_or_r bits value) in
        absurd (grind arith)
    by false y false e f g = refl
    by false y true e f g =
        let low = ltb-true (bit_or bits value) 256 g in
        let below : bits < 256 = omega (arith, low, le_or_l bits value) in
        absurd (grind arith)

pub pair_is : (a b i high low : ℕ) → hex_digit_value a ≡ Some high → hex_digit_value b ≡ Some low
    → pair_value a b i ≡ Ok (high * 16 + low)
pair_is a b i high low first second = rw (first, second) refl

-- Digits, a block at a time

-- those of one block more
pub all_more : (xs : List ℕ) (n m k : ℕ) (are is : Bool) → are ≡ list_all is_hex_digit (take n xs)
    → k ≡ m
    → is ≡ list_all is_hex_digit (take k (drop n xs)) → (are && is)
    ≡ list_all is_hex_digit (take (n + m) xs)
all_more xs n m k are is before same now = rw (before, now, same)
    (sym (ap (list_all is_hex_digit) (take-add n m xs)
    ∙ list_all-append is_hex_digit (take n xs) (take m (drop n xs))))

-- Tables

-- Below a place a table has a function's values. All that are no octets count for one.
abbrev pub agrees_below : List ℕ → (ℕ → ℕ) → ℕ → Bool
agrees_below table f zero = true
agrees_below table f (suc n) = nat_eq (min (get_or table n 0) 256) (f n) && agrees_below table f n

pub agrees_at : (table : List ℕ) (f : ℕ → ℕ) (n : ℕ) → agrees_below table f n ≡ true → (i : ℕ)
    → i < n
    → min (get_or table i 0) 256 ≡ f i
agrees_at table f zero h i lt = absurd (omega (arith, lt))
agrees_at table f (suc n) h i lt =
    let both = and_parts (nat_eq (min (get_or table n 0) 256) (f n)) (agrees_below table f n) h in
    elim (cases_eq i n) [
      | inl same ↦ rw same (eqb-true _ _ both.0)
      | inr other ↦ agrees_at table f n both.1 i (omega (arith, lt, other))
    ]

pub value_small : (octet v : ℕ) → hex_digit_value octet ≡ Some v → v < 16
value_small octet v is = grind (arith)

-- a letter's low digit is 1 to 6, and bit 6 distinguishes letters from decimal digits
pub value_by_arithmetic : (octet : ℕ) → is_hex_digit octet ≡ true
    → hex_digit_value octet ≡ Some ((octet % 16 + octet / 64 * 9) % 16)
value_by_arithmetic c is =
    by (nat_le 65 c && nat_le c 70) (nat_le 97 c && nat_le c 102) (nat_le 48 c && nat_le c 57) refl
    refl refl is
  where
    between : (low high : ℕ) → (nat_le low c && nat_le c high) ≡ true → (low ≤ c) × (c ≤ high)
    between low high e =
        let both = and_parts (nat_le low c) (nat_le c high) e in
        (grind (arith, both.0), grind (arith, both.1))

    by : (a b d : Bool) → (nat_le 65 c && nat_le c 70) ≡ a → (nat_le 97 c && nat_le c 102) ≡ b
        → (nat_le 48 c && nat_le c 57) ≡ d
        → is_some (if a then Some (c - 55) else if b then Some (c - 87) else if d then Some (c - 48)
        else None) ≡ true
        → (if a then Some (c - 55) else if b then Some (c - 87) else if d then Some (c - 48)
        else None)
        ≡ Some ((c % 16 + c / 64 * 9) % 16)
    by true b d e f g some = let lies = between 65 70 e in ap Some (omega arith)
    by false true d e f g some = let lies = between 97 102 f in ap Some (omega arith)
    by false false true e f g some = let lies = between 48 57 g in ap Some (omega arith)
    by false false false e f g some = absurd (let no : ⊥ = cc in no)

-- a number that stands for an octet, or for none
abbrev octet_or_none : ℕ → Option ℕ
octet_or_none value = if nat_lt value 256 then Some value else None

given_by : (value : ℕ) (o : Option ℕ) → min value 256 ≡ unwrap_or o 256
    → ((v : ℕ) → o ≡ Some v → v < 256)
    → o ≡ octet_or_none value
given_by value None same small =
    let great : nat_lt value 256 ≡ false = grind (arith, same) in
    sym (ap (λ (b : Bool). if b then Some value else None) great)
given_by value (Some v) same small =
    let lt : v < 256 = small v refl in
    let is : v ≡ value = grind (arith, same, lt) in
    let octet : nat_lt value 256 ≡ true = lt-ltb value 256 (omega (arith, is, lt)) in
    ap Some is ∙ sym (ap (λ (b : Bool). if b then Some value else None) octet)

abbrev pub value_or_none : ℕ → ℕ
value_or_none octet = unwrap_or (hex_digit_value octet) 256

pub value_is : (octet value : ℕ) → min value 256 ≡ value_or_none octet
    → hex_digit_value octet ≡ (if nat_lt value 256 then Some value else None)
value_is octet value is =
    given_by value (hex_digit_value octet) is (λ v e. let small = value_small octet v e in
    omega (arith, small))

abbrev pub high_or_none : ℕ → ℕ
high_or_none octet = unwrap_or (option_map (λ v. 16 * v) (hex_digit_value octet)) 256

pub high_is : (octet value : ℕ) → min value 256 ≡ high_or_none octet
    → option_map (λ v. 16 * v) (hex_digit_value octet) ≡ (if nat_lt value 256 then Some value
    else None)
high_is octet value is = given_by value (option_map (λ v. 16 * v) (hex_digit_value octet)) is
    (below _ refl)
  where
    below : (o : Option ℕ) → hex_digit_value octet ≡ o → (v : ℕ) → option_map (λ w. 16 * w) o
        ≡ Some v → v < 256
    below None e v some = cc some
    below (Some w) e v some =
        let small = value_small octet w e in
        let same : 16 * w ≡ v = ap (λ (o : Option ℕ). unwrap_or o 0) some in
        omega (arith, small, same)
