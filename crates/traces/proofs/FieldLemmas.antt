-- A field of a printed line is read as what it was printed of: a number, octets, a cause.
use Rattle.std.proofs.Common.{◌≡◌, ℕ, ◌+◌, ◌-◌, ◌*◌, ◌^◌, ◌<◌, ◌≤◌, ◌==◌, nat_le, ◌&&◌, Bool, true}
use Rattle.std.proofs.Common.{false, List, [], ◌∷◌, ◌++◌, length, Some, refl, sym, ap, ◌∙◌, arith}
use Rattle.std.proofs.lemmas.List.Elements.{All-append, All-cons, All-nil}
use Rattle.std.proofs.lemmas.List.Folds.{list_any_none}
use Rattle.std.proofs.lemmas.List.Splits.{slice_split_at, slice_split_none, length-slice_split}
use Rattle.std.proofs.lemmas.Fmt.{decimal_is_IsNumeral_wide}
use Rattle.std.proofs.lemmas.Str.Parse.{digit_from_value}
use Rattle.std.proofs.lemmas.Str.{digit_value_digit}
use Rattle.std.specs.Str.Parse.{AllDigits, digits_value_after, digits_value}
use Rattle.std.specs.Char.{digit_value}
use Rattle.std.specs.List.{All, AllByRecursion, slice_split}
use Rattle.std.specs.Option.{option_and_then}
use Rattle.std.specs.Result.{result_ok}
use Rattle.std.specs.Fmt.{decimal}
use Rattle.hex.specs.Hex.{IsBytes, encode_upper, is_hex_digit}
use Rattle.hex.proofs.HexLemmas.{decode_of-encode_upper, decode_of-ok}
use Rattle.session.specs.declared.kinds.Close.{Close}
use Rattle.session.specs.declared.kinds.Close.TheVariants.{Grammar, SendNumber, ReceiveNumber}
use Rattle.session.specs.declared.kinds.Close.TheVariants.{Stopped, Timeout, OwnAnswers, Replaced}
use Rattle.gateway.specs.Entries.{number_of}
use Rattle.traces.specs.Fields.{digits_after}
use Rattle.traces.specs.Printed.{HasNoMark, number_in, octets_in_hex, cause_numbered, entry_from}
use Rattle.traces.specs.Printed.{entry_in, before_those, entries_of_parts, entries_in}

-- Fields without separators

-- a field has neither spaces nor line feeds, nor `!`
abbrev pub IsPlain : List ℕ → Type 0
IsPlain field = All (λ b. 33 < b) field

plain_split : (separator : ℕ) (field : List ℕ) → separator ≤ 33 → IsPlain field
    → All (λ b. (b == separator) ≡ false) field
plain_split separator field le plain i x is = other _ (plain i x is)
  where
    other : (b : ℕ) → 33 < b → (b == separator) ≡ false
    other b lt = grind arith

-- fields with a space between each two
abbrev pub spaced : List ℕ → List (List ℕ) → List ℕ
spaced field [] = field
spaced field (next ∷ fields) = field ++ 32 ∷ spaced next fields

-- a line of such fields is cut into them
pub spaced_fields : (field : List ℕ) (fields : List (List ℕ)) → IsPlain field
    → AllByRecursion IsPlain fields
    → slice_split (λ b. b == 32) (spaced field fields) ≡ field ∷ fields
spaced_fields field [] plain all =
    slice_split_none (λ b. b == 32) field (plain_split 32 field (omega arith) plain)
spaced_fields field (next ∷ fields) plain all =
    slice_split_at (λ b. b == 32) field 32 (spaced next fields)
    (plain_split 32 field (omega arith) plain) refl
    ∙ ap (λ (l : List (List ℕ)). field ∷ l) (spaced_fields next fields all.0 all.1)

-- and of the octets up to `!` it has spaces alone
pub spaced_without : (other : ℕ) (field : List ℕ) (fields : List (List ℕ)) → other ≤ 33
    → (32 == other) ≡ false
    → IsPlain field → AllByRecursion IsPlain fields
    → All (λ b. (b == other) ≡ false) (spaced field fields)
spaced_without other field [] le differs plain all = plain_split other field le plain
spaced_without other field (next ∷ fields) le differs plain all =
    All-append (λ b. (b == other) ≡ false) field (32 ∷ spaced next fields)
    (plain_split other field le plain)
    (All-cons (λ b. (b == other) ≡ false) 32 (spaced next fields) differs
    (spaced_without other next fields le differs all.0 all.1))

-- so it has no line feed
pub spaced_line : (field : List ℕ) (fields : List (List ℕ)) → IsPlain field
    → AllByRecursion IsPlain fields
    → All (λ b. (b == 10) ≡ false) (spaced field fields)
spaced_line field fields plain all = spaced_without 10 field fields (omega arith) refl plain all

-- nor `!`, which no line feed is either
pub line_unmarked : (field : List ℕ) (fields : List (List ℕ)) → IsPlain field
    → AllByRecursion IsPlain fields
    → HasNoMark (spaced field fields ++ 10 ∷ [])
line_unmarked field fields plain all =
    list_any_none (λ b. b == 33) (spaced field fields ++ 10 ∷ [])
    (All-append (λ b. (b == 33) ≡ false) (spaced field fields) (10 ∷ [])
    (spaced_without 33 field fields (omega arith) refl plain all)
    (All-cons (λ b. (b == 33) ≡ false) 10 [] refl (All-nil (λ b. (b == 33) ≡ false))))

-- Texts of lines

parts_read : (line : List ℕ) (parts : List (List ℕ)) → 0 < length parts
    → entries_of_parts (line ∷ parts) ≡ before_those (entry_in line) (entries_of_parts parts)
parts_read line [] some = absurd (omega arith)
parts_read line (next ∷ parts) some = refl

-- the first line, and what follows it
line_first : (line text : List ℕ) → All (λ b. (b == 10) ≡ false) line
    → entries_in (line ++ 10 ∷ text) ≡ before_those (entry_in line) (entries_in text)
line_first line text whole =
    ap entries_of_parts (slice_split_at (λ b. b == 10) line 10 text whole refl)
    ∙ parts_read line (slice_split (λ b. b == 10) text)
    (omega (arith, length-slice_split (λ (b : ℕ). b == 10) text))

-- a line of fields
pub fields_first : (field : List ℕ) (fields : List (List ℕ)) (text : List ℕ) → IsPlain field
    → AllByRecursion IsPlain fields →
    entries_in (spaced field fields ++ 10 ∷ text) ≡ before_those (entry_from (field ∷ fields))
    (entries_in text)
fields_first field fields text plain all =
    line_first (spaced field fields) text (spaced_line field fields plain all)
    ∙ ap (λ (l : List (List ℕ)). before_those (entry_from l) (entries_in text))
    (spaced_fields field fields plain all)

-- Numbers

digits_plain : (ds : List ℕ) → AllDigits 10 ds → IsPlain ds
digits_plain [] all = All-nil (λ b. 33 < b)
digits_plain (d ∷ ds) all = All-cons (λ b. 33 < b) d ds (omega (arith, digit_from_value d all.0))
    (digits_plain ds all.1)

pub digits_read : (n : ℕ) (ds : List ℕ) → AllDigits 10 ds → digits_after n ds
    ≡ Some (digits_value_after 10 n ds)
digits_read n [] all = refl
digits_read n (d ∷ ds) all = go (digits_read (n * 10 + digit_value d) ds all.1)
    (nat_le 48 d && nat_le d 57) refl
  where
    k : digit_value d + 48 ≡ d
    k = digit_value_digit d (digit_from_value d all.0)

    within : (nat_le 48 d && nat_le d 57) ≡ true
    within =
        let low : 48 ≤ d = omega (arith, digit_from_value d all.0) in
        let high : d ≤ 57 = omega (arith, digit_from_value d all.0) in
        grind arith

    go : digits_after (n * 10 + digit_value d) ds
        ≡ Some (digits_value_after 10 (n * 10 + digit_value d) ds) →
        (b : Bool) → (nat_le 48 d && nat_le d 57) ≡ b → digits_after n (d ∷ ds)
        ≡ Some (digits_value_after 10 n (d ∷ ds))
    go rest true is =
        let same : n * 10 + (d - 48) ≡ n * 10 + digit_value d = omega (arith, k) in
        rw is (ap (λ (m : ℕ). digits_after m ds) same ∙ rest)
    go rest false is = let never : true ≡ false = sym within ∙ is in cc

wide : (n : ℕ) → n < 2 ^ 64 + 1 → n < 10 ^ 64
wide n lt = omega arith

pub number_plain : (n : ℕ) → n < 2 ^ 64 + 1 → IsPlain (decimal n)
number_plain n lt = digits_plain (decimal n) (decimal_is_IsNumeral_wide n (wide n lt)).0.1

some_number : (ds : List ℕ) → 0 < length ds → AllDigits 10 ds → number_in ds
    ≡ Some (digits_value 10 ds)
some_number [] some all = absurd (omega arith)
some_number (d ∷ ds) some all = digits_read 0 (d ∷ ds) all

pub number_read : (n : ℕ) → n < 2 ^ 64 + 1 → number_in (decimal n) ≡ Some n
number_read n lt =
    let is = decimal_is_IsNumeral_wide n (wide n lt) in
    some_number (decimal n) is.0.0 is.0.1 ∙ ap (λ (m : ℕ). Some m) is.1

-- Octets

pub hex_plain : (c : ℕ) → is_hex_digit c ≡ true → 33 < c
hex_plain c is = go (nat_le 65 c && nat_le c 70) (nat_le 97 c && nat_le c 102) (nat_le 48 c
    && nat_le c 57) refl refl refl
  where
    go : (x y z : Bool) → (nat_le 65 c && nat_le c 70) ≡ x → (nat_le 97 c && nat_le c 102) ≡ y
        → (nat_le 48 c && nat_le c 57) ≡ z → 33 < c
    go true y z e f g = grind arith
    go false true z e f g = grind arith
    go false false true e f g = grind arith
    go false false false e f g = let never : is_hex_digit c ≡ false = rw (e, f, g) refl
        in let no : true ≡ false = sym is ∙ never in cc

pub octets_plain : (octets : List ℕ) → IsBytes octets → IsPlain (encode_upper octets)
octets_plain octets bytes i x is =
    hex_plain _ ((decode_of-ok (encode_upper octets) octets (decode_of-encode_upper octets bytes)).1
    i x is)

pub octets_read : (octets : List ℕ) → IsBytes octets
    → octets_in_hex (encode_upper octets) ≡ Some octets
octets_read octets bytes = ap result_ok (decode_of-encode_upper octets bytes)

-- Causes

pub cause_read : (cause : Close)
    → option_and_then cause_numbered (Some (number_of cause)) ≡ Some cause
cause_read Grammar = refl
cause_read SendNumber = refl
cause_read ReceiveNumber = refl
cause_read Stopped = refl
cause_read Timeout = refl
cause_read OwnAnswers = refl
cause_read Replaced = refl

pub cause_small : (cause : Close) → number_of cause < 2 ^ 64 + 1
cause_small Grammar = omega arith
cause_small SendNumber = omega arith
cause_small ReceiveNumber = omega arith
cause_small Stopped = omega arith
cause_small Timeout = omega arith
cause_small OwnAnswers = omega arith
cause_small Replaced = omega arith

-- Words

pub word : (c : ℕ) → 33 < c → IsPlain (c ∷ [])
word c lt = All-cons (λ b. 33 < b) c [] lt (All-nil (λ b. 33 < b))
