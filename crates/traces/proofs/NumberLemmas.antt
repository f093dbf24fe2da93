-- A number at the front of a text, digit by digit.
use Rattle.std.proofs.Common.{◌≡◌, ◌≢◌, ℕ, zero, suc, ◌+◌, ◌-◌, ◌*◌, ◌^◌, ◌<◌, ◌≤◌, nat_le, ◌&&◌}
use Rattle.std.proofs.Common.{Bool, true, false, List, [], ◌∷◌, ◌++◌, length, take, slice_index}
use Rattle.std.proofs.Common.{Some, None, inl, inr, if◌then◌else◌, lit<, refl, sym, ap, ◌∙◌, arith}
use Rattle.std.proofs.Math.Nat.{pow-le-pow_right}
use Rattle.std.proofs.lemmas.Bool.{cases_lt}
use Rattle.std.proofs.lemmas.Nat.{pow-add}
use Rattle.std.proofs.lemmas.List.{get_or-take, length-take-le}
use Rattle.std.specs.Char.{is_ascii_digit}
use Rattle.traces.specs.Fields.{digits_after, decimal_of}
use Rattle.traces.specs.FirstLines.{NumberMayEnd, IsFrontNumber}

-- what 15 digits spell
pub below_limit : (n i : ℕ) → n < 10 ^ i → i ≤ 15 → n < 10 ^ 15
below_limit n i lt le = let up : 10 ^ i ≤ 10 ^ 15 = pow-le-pow_right (lit< tt) le in omega arith

pub small_more : (n d i : ℕ) → n < 10 ^ i → d < 10 → n * 10 + d < 10 ^ (i + 1)
small_more n d i lt digit = let up : 10 ^ (i + 1) ≡ 10 ^ i * 10 = pow-add 10 i 1 in
    omega (arith, up)

-- octets that aren't digits alone are no number
pub digits_none : (n : ℕ) (xs : List ℕ) (k : ℕ) → k < length xs → is_ascii_digit (slice_index xs k)
    ≡ false
    → digits_after n xs ≡ None
digits_none n [] k lt out = absurd (omega (arith, lt))
digits_none n (x ∷ xs) zero lt out = rw out refl
digits_none n (x ∷ xs) (suc k) lt out =
    by (nat_le 48 x && nat_le x 57) (digits_none (n * 10 + (x - 48)) xs k (omega (arith, lt)) out)
  where
    by : (b : Bool) → digits_after (n * 10 + (x - 48)) xs ≡ None
        → (if b then digits_after (n * 10 + (x - 48)) xs else None) ≡ None
    by true is = is
    by false is = refl

pub no_number : (xs : List ℕ) (k : ℕ) → k < length xs → is_ascii_digit (slice_index xs k) ≡ false
    → decimal_of xs ≡ None
no_number xs k lt out = by (nat_le 1 (length xs) && nat_le (length xs) 15)
  where
    by : (b : Bool) → (if b then digits_after 0 xs else None) ≡ None
    by true = digits_none 0 xs k lt out
    by false = refl

pub too_long : (xs : List ℕ) → 15 < length xs → decimal_of xs ≡ None
too_long xs long =
    let off : (nat_le 1 (length xs) && nat_le (length xs) 15) ≡ false = grind arith in
    ap (λ (b : Bool). if b then digits_after 0 xs else None) off

-- one digit more
pub digits_more : (n v : ℕ) (xs : List ℕ) (d : ℕ) → digits_after n xs ≡ Some v → is_ascii_digit d
    ≡ true
    → digits_after n (xs ++ d ∷ []) ≡ Some (v * 10 + (d - 48))
digits_more n v [] d e is = let same : n ≡ v = cc in rw (is, same) refl
digits_more n v (x ∷ xs) d e is =
    by (nat_le 48 x && nat_le x 57) (λ h. digits_more (n * 10 + (x - 48)) v xs d h is) e
  where
    by : (b : Bool) → (digits_after (n * 10 + (x - 48)) xs ≡ Some v
        → digits_after (n * 10 + (x - 48)) (xs ++ d ∷ []) ≡ Some (v * 10 + (d - 48)))
        → (if b then digits_after (n * 10 + (x - 48)) xs else None) ≡ Some v
        → (if b then digits_after (n * 10 + (x - 48)) (xs ++ d ∷ []) else None)
        ≡ Some (v * 10 + (d - 48))
    by true more h = more h
    by false more h = cc

-- octets that spell a number are digits
pub number_digits : (n v : ℕ) (xs : List ℕ) (k : ℕ) → digits_after n xs ≡ Some v → k < length xs
    → is_ascii_digit (slice_index xs k) ≡ true
number_digits n v xs k e lt = by (is_ascii_digit (slice_index xs k)) refl
  where
    by : (b : Bool) → is_ascii_digit (slice_index xs k) ≡ b → b ≡ true
    by true is = refl
    by false is = let none = digits_none n xs k lt is in cc

pub some_digits : (xs : List ℕ) (v : ℕ) → decimal_of xs ≡ Some v → digits_after 0 xs ≡ Some v
some_digits xs v e = by (nat_le 1 (length xs) && nat_le (length xs) 15) e
  where
    by : (b : Bool) → (if b then digits_after 0 xs else None) ≡ Some v → digits_after 0 xs ≡ Some v
    by true e = e
    by false e = cc

pub decimal_digits : (xs : List ℕ) (v k : ℕ) → decimal_of xs ≡ Some v → k < length xs
    → is_ascii_digit (slice_index xs k) ≡ true
decimal_digits xs v k e lt = number_digits 0 v xs k (some_digits xs v e) lt

-- Digits up to a place, and none there.

pub ended_at : (text : List ℕ) (i v : ℕ) → i ≤ 15 → NumberMayEnd text i
    → digits_after 0 (take i text) ≡ Some v
    → IsFrontNumber text (if nat_le 1 i && nat_le i 15 then Some (v, i) else None)
ended_at text zero v most ends is = λ j at. by j at
  where
    by : (j : ℕ) → NumberMayEnd text j → decimal_of (take j text) ≡ None
    by zero at = refl
    by (suc j) at =
        let le : suc j ≤ length text = at.within in
        let len : length (take (suc j) text) ≡ suc j = length-take-le (suc j) text le in
        let same : slice_index (take (suc j) text) 0 ≡ slice_index text 0 =
        get_or-take (suc j) text 0 0 (omega arith) in
        no_number (take (suc j) text) 0 (omega (arith, len)) (ap is_ascii_digit same
        ∙ ends.over (omega (arith, le)))
ended_at text (suc i) v most ends is =
    let on : (nat_le 1 (suc i) && nat_le (suc i) 15) ≡ true = grind arith in
    let len : length (take (suc i) text) ≡ suc i = length-take-le (suc i) text ends.within in
    let whole : decimal_of (take (suc i) text) ≡ Some v = rw (len, on) is in
    rw on (ends, whole)

-- digits up to the end, or one more than a number may have
pub ended_near : (text : List ℕ) (near v : ℕ) → near ≤ length text
    → (near < 16 → near ≡ length text) → near ≤ 16
    → digits_after 0 (take near text) ≡ Some v
    → IsFrontNumber text (if nat_le 1 near && nat_le near 15 then Some (v, near) else None)
ended_near text near v le all most is = elim (cases_lt near 16) [
  | inl short ↦
      ended_at text near v (omega (arith, short))
      (record { within = le; over = λ lt. absurd (omega (arith, lt, all short)) }) is
  | inr long ↦
      let off : (nat_le 1 near && nat_le near 15) ≡ false = grind arith in
      rw off (λ j at. too_many text near v j (omega (arith, long, most)) le is at)
]
  where
    too_many : (text : List ℕ) (near v j : ℕ) → near ≡ 16 → near ≤ length text
        → digits_after 0 (take near text) ≡ Some v → NumberMayEnd text j → decimal_of (take j text)
        ≡ None
    too_many text near v j e le is at = elim (cases_lt j near) [
      | inl before ↦
          let len : length (take near text) ≡ near = length-take-le near text le in
          let same : slice_index (take near text) j ≡ slice_index text j =
          get_or-take near text j 0 before in
          let here = number_digits 0 v (take near text) j is (omega (arith, len, before)) in
          let over = at.over (omega (arith, le, before)) in
          let odd : true ≡ false = sym here ∙ ap is_ascii_digit same ∙ over in
          absurd (cc)
      | inr behind ↦
          let len : length (take j text) ≡ j = length-take-le j text at.within in
          too_long (take j text) (omega (arith, len, behind, e))
    ]

-- A text behind whose number more stands is none.

pub number_in_front : (text : List ℕ) (v i : ℕ) → IsFrontNumber text (Some (v, i)) → i ≢ length text
    → None ≡ decimal_of text
number_in_front text v i is other =
    let lt : i < length text = omega (arith, is.0.within, other) in
    sym (no_number text i lt (is.0.over lt))
