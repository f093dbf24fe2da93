-- A number spelled from its last digit on, at the end of a row.
use Rattle.std.proofs.Common.{◌≡◌, ℕ, ◌+◌, ◌-◌, ◌/◌, ◌%◌, ◌^◌, ◌<◌, ◌≤◌, List, [], ◌∷◌, ◌++◌}
use Rattle.std.proofs.Common.{length, drop, slice_set, ap, sym, ◌∙◌, arith, append_assoc}
use Rattle.std.proofs.Common.{length-append, length-drop, length-set}
use Rattle.std.proofs.lemmas.List.{drop-set, drop-set-lt}
use Rattle.std.proofs.lemmas.Fmt.{decimal_digit, decimal_nonempty, decimal_step, length-decimal-le}
use Rattle.std.specs.Fmt.{decimal}

-- what isn't spelled yet of a number, and the digits that are, from this place on, are that number;
-- behind the first half of the row stands what stood there
pub record IsSpelling (number left : ℕ) (row : List ℕ) (start : ℕ) : Type 0 where
  pub places : length row ≡ 40
  pub within : start ≤ 20
  pub text : decimal left ++ drop start row ≡ decimal number ++ drop 20 row

-- the row has a place for each digit that isn't spelled yet, of which there is one at least
pub place_left : (number left : ℕ) (row : List ℕ) (start : ℕ) → number < 2 ^ 64 → left < 2 ^ 64
    → IsSpelling number left row start → 1 ≤ start
place_left number left row start fits small is =
    omega (
      arith,
      ap length is.text,
      is.places,
      is.within,
      length-append (decimal left) (drop start row),
      length-drop start row,
      length-append (decimal number) (drop 20 row),
      length-drop 20 row,
      decimal_nonempty left small,
      length-decimal-le 20 number (omega arith) (omega arith) fits,
    )

-- a digit before those that are spelled
digit_before : (row : List ℕ) (start digit : ℕ) → 1 ≤ start → start ≤ length row
    → drop (start - 1) (slice_set row (start - 1) digit) ≡ digit ∷ drop start row
digit_before row start digit some place =
    let next : start - 1 + 1 ≡ start = omega arith in
    drop-set row (start - 1) digit (omega arith) ∙ ap (λ n. digit ∷ drop n row) next

-- nothing behind the first half changes
half_stays : (row : List ℕ) (start digit : ℕ) → 1 ≤ start → start ≤ 20
    → drop 20 (slice_set row (start - 1) digit) ≡ drop 20 row
half_stays row start digit some within = drop-set-lt 20 row (start - 1) digit (omega arith)

-- the last digit of what isn't spelled yet, if that has more
pub last_spelled : (number left : ℕ) (row : List ℕ) (start : ℕ) → number < 2 ^ 64 → left < 2 ^ 64
    → 10 ≤ left
    → IsSpelling number left row start
    → IsSpelling number (left / 10) (slice_set row (start - 1) (48 + left % 10)) (start - 1)
last_spelled number left row start fits small more is =
    let some = place_left number left row start fits small is in
    let place : start ≤ length row = omega (arith, is.places, is.within) in record {
      places = length-set row (start - 1) (48 + left % 10) ∙ is.places;
      within = omega (arith, is.within);
      text =
          ap (λ l. decimal (left / 10) ++ l) (digit_before row start (48 + left % 10) some place)
          ∙ sym (append_assoc (decimal (left / 10)) ((48 + left % 10) ∷ []) (drop start row))
          ∙ ap (λ l. l ++ drop start row) (sym (decimal_step left more small)) ∙ is.text
          ∙ ap (λ l. decimal number ++ l)
          (sym (half_stays row start (48 + left % 10) some is.within));
    }

-- the first digit of the number
pub first_spelled : (number left : ℕ) (row : List ℕ) (start : ℕ) → number < 2 ^ 64 → left < 10
    → IsSpelling number left row start
    → drop (start - 1) (slice_set row (start - 1) (48 + left))
    ≡ decimal number ++ drop 20 (slice_set row (start - 1) (48 + left))
first_spelled number left row start fits one is =
    let some = place_left number left row start fits (omega arith) is in
    let place : start ≤ length row = omega (arith, is.places, is.within) in
    digit_before row start (48 + left) some place
    ∙ ap (λ l. l ++ drop start row) (sym (decimal_digit left one)) ∙ is.text
    ∙ ap (λ l. decimal number ++ l) (sym (half_stays row start (48 + left) some is.within))
