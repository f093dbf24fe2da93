-- Lines that were put are read.
use Rattle.std.proofs.Common.{◌≡◌, ℕ, ◌+◌, ◌-◌, ◌*◌, ◌/◌, ◌%◌, ◌^◌, ◌<◌, ◌≤◌, ◌==◌, nat_le}
use Rattle.std.proofs.Common.{nat_lt, ◌&&◌, Bool, true, false, List, [], ◌∷◌, ◌++◌, length, get_or}
use Rattle.std.proofs.Common.{take, drop, cond, Option, Some, None, Result, Ok, Err}
use Rattle.std.proofs.Common.{OnOk, OnErr, Fits, w8, w64, suc, subst, refl, sym, ap}
use Rattle.std.proofs.Common.{◌∙◌, arith, append_assoc}
use Rattle.std.proofs.lemmas.List.{append-nil, drop-drop, take_rest}
use Rattle.std.proofs.lemmas.Result.{on_ok_weaker}
use Rattle.std.proofs.Math.Facts.{Fits-lt-pow}
use Rattle.std.proofs.lemmas.List.Elements.{All-append, All-cons, All-nil}
use Rattle.std.specs.Prelude.{position}
use Rattle.std.specs.List.{position_or_len}
use Rattle.std.proofs.lemmas.Bool.{ltb-true}
use Rattle.std.proofs.lemmas.List.Sums.{fails_before_first}
use Rattle.std.proofs.lemmas.List.Splits.{slice_split_at, length-slice_split, slice_split_first}
use Rattle.std.proofs.lemmas.List.Splits.{slice_split_none}
use Rattle.std.proofs.lemmas.Fmt.{decimal_is_IsNumeral, decimal_by_steps}
use Rattle.std.proofs.lemmas.Str.Parse.{digit_from_value}
use Rattle.std.specs.Str.Parse.{AllDigits}
use Rattle.std.specs.Fmt.{decimal}
use Rattle.std.specs.List.{All, slice_split}
use Rattle.hex.specs.Hex.{IsBytes, encode_lower, is_hex_digit}
use Rattle.hex.proofs.HexLemmas.{decode_of-encode_lower, decode_of-ok}
use Rattle.statetext.specs.Text.{text_behind, text_of_numbers, text_of_octets, before}
use Rattle.statetext.specs.Text.{numbers_behind, octets_read, line_in, before_lines, lines_of_parts}
use Rattle.statetext.specs.Text.{lines_in, IsWhole}

-- a text without line feeds
abbrev IsRow : List ℕ → Type 0
IsRow row = All (λ c. (c == 10) ≡ false) row

-- Texts of lines

parts_read : (row : List ℕ) (parts : List (List ℕ)) → 0 < length parts
    → lines_of_parts (row ∷ parts) ≡ before_lines (line_in row) (lines_of_parts parts)
parts_read row [] some = absurd (omega arith)
parts_read row (next ∷ parts) some = refl

-- the first line of a text, and what follows it
pub line_first : (row text : List ℕ) → IsRow row
    → lines_in (row ++ 10 ∷ text) ≡ before_lines (line_in row) (lines_in text)
unfolding lines_in
line_first row text is =
    ap lines_of_parts (slice_split_at (λ c. c == 10) row 10 text is refl)
    ∙ parts_read row (slice_split (λ c. c == 10) text)
    (omega (arith, length-slice_split (λ (c : ℕ). c == 10) text))

pub no_text : lines_in [] ≡ []
unfolding lines_in
no_text = refl

pub whole_none : IsWhole []
whole_none rest = rw no_text refl

grouped : (xs : List (List ℕ)) (x : List ℕ) (ys : List (List ℕ)) → xs ++ x ∷ ys
    ≡ (xs ++ x ∷ []) ++ ys
grouped xs x ys = rw append_assoc refl

-- a text of whole lines with one more
pub one_more : (text row line : List ℕ) → IsWhole text → IsRow row → line_in row ≡ Some line
    → (rest : List ℕ) → lines_in ((text ++ (row ++ 10 ∷ [])) ++ rest) ≡ (lines_in text ++ line ∷ [])
    ++ lines_in rest
one_more text row line whole is says rest =
    rw (append_assoc, append_assoc) (
    whole (row ++ 10 ∷ rest)
    ∙ ap (λ (l : List (List ℕ)). lines_in text ++ l) (line_first row rest is
    ∙ ap (λ (o : Option (List ℕ)). before_lines o (lines_in rest)) says)
    ∙ grouped (lines_in text) line (lines_in rest))

pub more_lines : (text row line : List ℕ) → IsWhole text → IsRow row → line_in row ≡ Some line
    → lines_in (text ++ (row ++ 10 ∷ [])) ≡ lines_in text ++ line ∷ []
more_lines text row line whole is says =
    ap lines_in (sym (append-nil (text ++ (row ++ 10 ∷ []))))
    ∙ one_more text row line whole is says []
    ∙ ap (λ (l : List (List ℕ)). (lines_in text ++ line ∷ []) ++ l) no_text
    ∙ append-nil (lines_in text ++ line ∷ [])

pub more_whole : (text row line : List ℕ) → IsWhole text → IsRow row → line_in row ≡ Some line
    → IsWhole (text ++ (row ++ 10 ∷ []))
more_whole text row line whole is says rest =
    one_more text row line whole is says rest
    ∙ ap (λ (l : List (List ℕ)). l ++ lines_in rest) (sym (more_lines text row line whole is says))

-- Numbers

digits_row : (ds : List ℕ) → AllDigits 10 ds → IsRow ds
digits_row [] all = All-nil (λ c. (c == 10) ≡ false)
digits_row (d ∷ ds) all =
    All-cons (λ c. (c == 10) ≡ false) d ds (other d (omega (arith, digit_from_value d all.0)))
    (digits_row ds all.1)
  where
    other : (d : ℕ) → 10 < d → (d == 10) ≡ false
    other d lt = grind arith

digits_said : (n : ℕ) → n < 2 ^ 64 → (rest : List ℕ) → numbers_behind None (decimal n ++ rest)
    ≡ numbers_behind (Some n) rest
digits_said n lt = decimal_by_steps P one more n lt lt
  where
    P : ℕ → List ℕ → Type 0
    P n ds = n < 2 ^ 64 → (rest : List ℕ) → numbers_behind None (ds ++ rest)
        ≡ numbers_behind (Some n) rest

    one : (n : ℕ) → n < 10 → P n ((48 + n) ∷ [])
    one n lt small rest =
        let space : ((48 + n) == 32) ≡ false = grind arith in
        let digit : (nat_le 48 (48 + n) && nat_le (48 + n) 57) ≡ true = grind arith in
        let value : (48 + n) - 48 ≡ n = omega arith in
        rw (space, digit, value) refl

    more : (n : ℕ) (ds : List ℕ) → 10 ≤ n → P (n / 10) ds → P n (ds ++ ((48 + n % 10) ∷ []))
    more n ds le front small rest =
        let d = 48 + n % 10 in
        let space : (d == 32) ≡ false = grind arith in
        let value : n / 10 * 10 + (d - 48) ≡ n = omega arith in
        let digit : (nat_le 48 d && nat_le d 57 && nat_le 1 (n / 10) && nat_lt n (2 ^ 64)) ≡ true =
        grind arith in
        rw append_assoc (front (omega arith) (d ∷ rest) ∙ rw (space, value, digit) refl)

-- Each number of a line has 64 bits.
abbrev pub AreNumbers : List ℕ → Type 0
AreNumbers [] = Unit {0}
AreNumbers (n ∷ ns) = (n < 2 ^ 64) × AreNumbers ns

behind_said : (m : ℕ) (ns : List ℕ) → AreNumbers ns → numbers_behind (Some m) (text_behind ns)
    ≡ Some (m ∷ ns)
behind_said m [] are = refl
behind_said m (n ∷ ns) are =
    ap (before (Some m)) (digits_said n are.0 (text_behind ns) ∙ behind_said n ns are.1)

numbers_said : (n : ℕ) (ns : List ℕ) → AreNumbers (n ∷ ns)
    → numbers_behind None (text_of_numbers (n ∷ ns)) ≡ Some (n ∷ ns)
numbers_said n ns are = digits_said n are.0 (text_behind ns) ∙ behind_said n ns are.1

-- a text that begins with a digit is no line of octets
digits_first : (ds rest : List ℕ) → 0 < length ds → AllDigits 10 ds → line_in (ds ++ rest)
    ≡ numbers_behind None (ds ++ rest)
digits_first [] rest some all = absurd (omega arith)
digits_first (d ∷ ds) rest some all =
    let other : (d == 120) ≡ false = is_other d (omega (arith, digit_from_value d all.0)) in
    rw other refl
  where
    is_other : (d : ℕ) → d < 120 → (d == 120) ≡ false
    is_other d lt = grind arith

pub numbers_line : (ns : List ℕ) → AreNumbers ns → line_in (text_of_numbers ns) ≡ Some ns
numbers_line [] are = refl
numbers_line (n ∷ ns) are =
    let is = decimal_is_IsNumeral n are.0 in
    digits_first (decimal n) (text_behind ns) is.0.0 is.0.1 ∙ numbers_said n ns are

behind_row : (ns : List ℕ) → AreNumbers ns → IsRow (text_behind ns)
behind_row [] are = All-nil (λ c. (c == 10) ≡ false)
behind_row (n ∷ ns) are =
    All-cons (λ c. (c == 10) ≡ false) 32 (decimal n ++ text_behind ns) refl
    (All-append (λ c. (c == 10) ≡ false) (decimal n) (text_behind ns)
    (digits_row (decimal n) (decimal_is_IsNumeral n are.0).0.1) (behind_row ns are.1))

pub numbers_row : (ns : List ℕ) → AreNumbers ns → IsRow (text_of_numbers ns)
numbers_row [] are = All-nil (λ c. (c == 10) ≡ false)
numbers_row (n ∷ ns) are =
    All-append (λ c. (c == 10) ≡ false) (decimal n) (text_behind ns)
    (digits_row (decimal n) (decimal_is_IsNumeral n are.0).0.1) (behind_row ns are.1)

-- Octets

pub octets_line : (octets : List ℕ) → IsBytes octets → line_in (text_of_octets octets) ≡ Some octets
octets_line octets bytes = ap octets_read (decode_of-encode_lower octets bytes)

hex_row : (c : ℕ) → is_hex_digit c ≡ true → (c == 10) ≡ false
hex_row c is = go (nat_le 65 c && nat_le c 70) (nat_le 97 c && nat_le c 102)
    (nat_le 48 c && nat_le c 57) refl refl refl
  where
    go : (x y z : Bool) → (nat_le 65 c && nat_le c 70) ≡ x → (nat_le 97 c && nat_le c 102) ≡ y
        → (nat_le 48 c && nat_le c 57) ≡ z → (c == 10) ≡ false
    go true y z e f g = grind arith
    go false true z e f g = grind arith
    go false false true e f g = grind arith
    go false false false e f g = let never : is_hex_digit c ≡ false = rw (e, f, g) refl
        in let no : true ≡ false = sym is ∙ never in cc

pub octets_row : (octets : List ℕ) → IsBytes octets → IsRow (text_of_octets octets)
octets_row octets bytes =
    All-cons (λ c. (c == 10) ≡ false) 120 (encode_lower octets) refl
    (λ i x is. hex_row _
    ((decode_of-ok (encode_lower octets) octets (decode_of-encode_lower octets bytes)).1 i x is))

-- The numbers of a line of the program have 64 bits, its octets are below 256.

pub are_numbers : (ns : List ℕ) → ((i : ℕ) → Fits w64 (get_or ns i 0)) → AreNumbers ns
are_numbers [] fits = tt
are_numbers (n ∷ ns) fits = (Fits-lt-pow {w = w64} (fits 0), are_numbers ns (λ i. fits (suc i)))

-- What a sheet shows after one more line

pub numbers_put : {T E : Type 0} (r : Result T E) (old new row line : List ℕ) → IsWhole old
    → ((i : ℕ) → Fits w64 (get_or line i 0)) → row ≡ text_of_numbers line ++ 10 ∷ []
    → OnOk r (new ≡ old ++ row) → OnOk r (lines_in new ≡ lines_in old ++ line ∷ [])
numbers_put r old new row line whole fits is put =
    on_ok_weaker r (λ e. ap lines_in (e ∙ ap (λ (l : List ℕ). old ++ l) is)
    ∙ more_lines old (text_of_numbers line) line whole (numbers_row line (are_numbers line fits))
    (numbers_line line (are_numbers line fits))) put

pub octets_put : {T E : Type 0} (r : Result T E) (old new row line : List ℕ) → IsWhole old
    → ((i : ℕ) → Fits w8 (get_or line i 0)) → row ≡ text_of_octets line ++ 10 ∷ []
    → OnOk r (new ≡ old ++ row) → OnOk r (lines_in new ≡ lines_in old ++ line ∷ [])
octets_put r old new row line whole fits is put =
    on_ok_weaker r (λ e. ap lines_in (e ∙ ap (λ (l : List ℕ). old ++ l) is)
    ∙ more_lines old (text_of_octets line) line whole
    (octets_row line (λ i. Fits-lt-pow {w = w8} (fits i)))
    (octets_line line (λ i. Fits-lt-pow {w = w8} (fits i)))) put

same_whole : (old new : List ℕ) → IsWhole old → new ≡ old → IsWhole new
same_whole old new whole is = subst IsWhole (sym is) whole

pub numbers_whole : {T E : Type 0} (r : Result T E) (old new row line : List ℕ) → IsWhole old
    → ((i : ℕ) → Fits w64 (get_or line i 0)) → row ≡ text_of_numbers line ++ 10 ∷ []
    → OnOk r (new ≡ old ++ row) → OnErr r (new ≡ old) → IsWhole new
numbers_whole (Ok x) old new row line whole fits is put none =
    same_whole _ new (more_whole old (text_of_numbers line) line whole
    (numbers_row line (are_numbers line fits)) (numbers_line line (are_numbers line fits)))
    (put ∙ ap (λ (l : List ℕ). old ++ l) is)
numbers_whole (Err e) old new row line whole fits is put none = same_whole old new whole none

pub octets_whole : {T E : Type 0} (r : Result T E) (old new row line : List ℕ) → IsWhole old
    → ((i : ℕ) → Fits w8 (get_or line i 0)) → row ≡ text_of_octets line ++ 10 ∷ []
    → OnOk r (new ≡ old ++ row) → OnErr r (new ≡ old) → IsWhole new
octets_whole (Ok x) old new row line whole fits is put none =
    same_whole _ new (more_whole old (text_of_octets line) line whole
    (octets_row line (λ i. Fits-lt-pow {w = w8} (fits i)))
    (octets_line line (λ i. Fits-lt-pow {w = w8} (fits i))))
    (put ∙ ap (λ (l : List ℕ). old ++ l) is)
octets_whole (Err e) old new row line whole fits is put none = same_whole old new whole none

-- The first line of a text that is cut at its first line feed

beyond : (a b : ℕ) → nat_lt a b ≡ false → b ≤ a
beyond a b e = grind arith

pub row_first : (text : List ℕ) (i : ℕ) → position (λ c. c == 10) text ≡ Some i
    → lines_in text ≡ before_lines (line_in (take i text)) (lines_in (drop (i + 1) text))
unfolding lines_in
row_first text i found = by_case (nat_lt n (length text)) refl found
  where
    p : ℕ → Bool
    p = λ c. c == 10

    n : ℕ
    n = position_or_len p text

    by_case : (b : Bool) → nat_lt n (length text) ≡ b → cond b (Some n) None ≡ Some i
        → lines_of_parts (slice_split p text)
        ≡ before_lines (line_in (take i text)) (lines_of_parts (slice_split p (drop (i + 1) text)))
    by_case true e h =
        let same : n ≡ i = cc in
        let cut = slice_split_first p text 0 (ltb-true n (length text) e) in
        ap lines_of_parts
        (subst (λ j. slice_split p text ≡ take j text ∷ slice_split p (drop (j + 1) text)) same cut)
        ∙ parts_read (take i text) (slice_split p (drop (i + 1) text))
        (omega (arith, length-slice_split p (drop (i + 1) text)))
    by_case false e h = cc

pub no_row : (text : List ℕ) → position (λ c. c == 10) text ≡ None → lines_in text ≡ []
unfolding lines_in
no_row text none = by_case (nat_lt n (length text)) refl none
  where
    p : ℕ → Bool
    p = λ c. c == 10

    n : ℕ
    n = position_or_len p text

    by_case : (b : Bool) → nat_lt n (length text) ≡ b → cond b (Some n) None ≡ None
        → lines_of_parts (slice_split p text) ≡ []
    by_case true e h = cc
    by_case false e h =
        ap lines_of_parts
        (slice_split_none p text (λ k d lt. fails_before_first p text k d
        (omega (arith, lt, beyond n (length text) e))))

-- the same behind a place

pub row_behind : (text : List ℕ) (at i : ℕ)
    → position (λ c. c == 10) (take (length text - at) (drop at text)) ≡ Some i
    → lines_in (drop at text)
    ≡ before_lines (line_in (take i (take (length text - at) (drop at text))))
    (lines_in (drop (at + i + 1) text))
row_behind text at i found =
    let rest : take (length text - at) (drop at text) ≡ drop at text = take_rest text at in
    let first : position (λ c. c == 10) (drop at text) ≡ Some i =
    subst (λ (l : List ℕ). position (λ c. c == 10) l ≡ Some i) rest found in
    row_first (drop at text) i first
    ∙ ap (λ (l : List ℕ). before_lines (line_in (take i l))
    (lines_in (drop (i + 1) (drop at text)))) (sym rest)
    ∙ ap (λ (l : List ℕ). before_lines (line_in (take i (take (length text - at) (drop at text))))
    (lines_in l))
    (drop-drop (i + 1) at text ∙ ap (λ (n : ℕ). drop n text) (let e : at + (i + 1) ≡ at + i + 1 =
    omega arith in e))

pub no_row_behind : (text : List ℕ) (at : ℕ)
    → position (λ c. c == 10) (take (length text - at) (drop at text)) ≡ None
    → lines_in (drop at text) ≡ []
no_row_behind text at none =
    no_row (drop at text) (subst (λ (l : List ℕ). position (λ c. c == 10) l ≡ None)
    (take_rest text at) none)
