-- A line of numbers is read from one text alone.
use Rattle.std.proofs.Common.{◌≡◌, ℕ, ◌+◌, ◌-◌, ◌*◌, ◌/◌, ◌%◌, ◌^◌, ◌<◌, ◌≤◌, ◌==◌, nat_le, nat_lt}
use Rattle.std.proofs.Common.{◌&&◌, Bool, true, false, List, [], ◌∷◌, ◌++◌, length, Option, Some, None}
use Rattle.std.proofs.Common.{if◌then◌else◌, refl, sym, ap, subst, ◌∙◌, arith}
use Rattle.std.proofs.Common.{append_assoc}
use Rattle.std.proofs.lemmas.Fmt.{decimal_digit, decimal_step}
use Rattle.std.specs.Fmt.{decimal}
use Rattle.std.specs.Option.{option_and_then}
use Rattle.hex.specs.Hex.{decode_of}
use Rattle.statetext.specs.Text.{before, line_in, numbers_behind, octets_read, text_behind}
use Rattle.statetext.specs.Text.{text_of_numbers, with_digit}

-- a digit, and the first one of a number
first_digit : (c d : ℕ) (b : Bool) → (nat_le 48 c && nat_le c 57) ≡ b
    → (if b then Some (c - 48) else None) ≡ Some d → (d < 10) × (48 + d ≡ c)
first_digit c d true is e =
    let same : c - 48 ≡ d = cc in
    let low : 48 ≤ c = grind arith in
    let high : c ≤ 57 = grind arith in (omega arith, omega arith)
first_digit c d false is e = absurd (cc)

-- and a later one
later_digit : (n c d : ℕ) (b : Bool)
    → (nat_le 48 c && nat_le c 57 && nat_le 1 n && nat_lt (n * 10 + (c - 48)) (2 ^ 64)) ≡ b
    → (if b then Some (n * 10 + (c - 48)) else None) ≡ Some d
    → (10 ≤ d) × (d < 2 ^ 64) × (d / 10 ≡ n) × (48 + d % 10 ≡ c)
later_digit n c d true is e =
    let same : n * 10 + (c - 48) ≡ d = cc in
    let low : 48 ≤ c = grind arith in
    let high : c ≤ 57 = grind arith in
    let some : 1 ≤ n = grind arith in
    let small : n * 10 + (c - 48) < 2 ^ 64 = grind arith in
    (omega arith, omega arith, omega arith, omega arith)
later_digit n c d false is e = absurd (cc)

-- the text of numbers behind the digits of this one
IsTextOf : Option ℕ → (cs ns : List ℕ) → Type 0
IsTextOf None cs ns = (cs ≡ text_of_numbers ns) × (1 ≤ length ns)
IsTextOf (Some n) cs ns = (decimal n ++ cs ≡ text_of_numbers ns) × (1 ≤ length ns)

some_is : (a b : List ℕ) → Some a ≡ Some b → a ≡ b
some_is a b e = cc

behind_space : (ms : List ℕ) → 1 ≤ length ms → text_behind ms ≡ 32 ∷ text_of_numbers ms
behind_space [] some = absurd (omega (arith, some))
behind_space (m ∷ ms) some = refl

-- so it is of the text behind one octet
Later : List ℕ → Type 0
Later cs = (number : Option ℕ) (ns : List ℕ) → numbers_behind number cs ≡ Some ns
    → IsTextOf number cs ns

at_space : (n c : ℕ) (cs ns : List ℕ) (others : Option (List ℕ)) → numbers_behind None cs ≡ others
    → c ≡ 32 → before (Some n) others ≡ Some ns → Later cs → IsTextOf (Some n) (c ∷ cs) ns
unfolding Later IsTextOf
at_space n c cs ns None are is e later =
    let wrong : None ≡ Some ns = e in absurd (cc)
at_space n c cs ns (Some ms) are is e later =
    let all : n ∷ ms ≡ ns = some_is (n ∷ ms) ns e in
    let t = later None ms are in
    let text : decimal n ++ (c ∷ cs) ≡ text_of_numbers (n ∷ ms) =
    ap (λ x. decimal n ++ (x ∷ cs)) is ∙ ap (λ (x : List ℕ). decimal n ++ (32 ∷ x)) t.0
    ∙ ap (λ (x : List ℕ). decimal n ++ x) (sym (behind_space ms t.1)) in (
      text ∙ ap text_of_numbers all,
      subst (λ (x : List ℕ). 1 ≤ length x) all (omega arith),
    )

at_digit : (number : Option ℕ) (c : ℕ) (cs ns : List ℕ) (read : Option ℕ)
    → with_digit number c ≡ read
    → option_and_then (λ n. numbers_behind (Some n) cs) read ≡ Some ns → Later cs
    → IsTextOf number (c ∷ cs) ns
unfolding Later IsTextOf
at_digit number c cs ns None is e later = let wrong : None ≡ Some ns = e in absurd (cc)
at_digit None c cs ns (Some d) is e later =
    let f = first_digit c d (nat_le 48 c && nat_le c 57) refl is in
    let t = later (Some d) ns e in
    let front : decimal d ≡ c ∷ [] = decimal_digit d f.0 ∙ ap (λ x. x ∷ []) f.1 in
    (ap (λ (x : List ℕ). x ++ cs) (sym front) ∙ t.0, t.1)
at_digit (Some n) c cs ns (Some d) is e later =
    let f = later_digit n c d
    (nat_le 48 c && nat_le c 57 && nat_le 1 n && nat_lt (n * 10 + (c - 48)) (2 ^ 64)) refl is in
    let t = later (Some d) ns e in
    let front : decimal d ≡ decimal n ++ c ∷ [] =
    decimal_step d f.0 f.1 ∙ ap (λ x. decimal x ++ (48 + d % 10) ∷ []) f.2
    ∙ ap (λ x. decimal n ++ x ∷ []) f.3 in (
      sym (append_assoc (decimal n) (c ∷ []) cs) ∙ ap (λ (x : List ℕ). x ++ cs) (sym front) ∙ t.0,
      t.1,
    )

at_octet : (number : Option ℕ) (c : ℕ) (cs ns : List ℕ) (b : Bool) → (c == 32) ≡ b
    → (if b then before number (numbers_behind None cs)
    else option_and_then (λ n. numbers_behind (Some n) cs) (with_digit number c)) ≡ Some ns
    → Later cs → IsTextOf number (c ∷ cs) ns
at_octet None c cs ns true is e later = let wrong : None ≡ Some ns = e in absurd (cc)
at_octet (Some n) c cs ns true is e later =
    let space : c ≡ 32 = grind arith in
    at_space n c cs ns (numbers_behind None cs) refl space e later
at_octet number c cs ns false is e later =
    at_digit number c cs ns (with_digit number c) refl e later

one_text : (cs : List ℕ) → Later cs
unfolding Later IsTextOf
one_text [] None ns e = let wrong : None ≡ Some ns = e in absurd (cc)
one_text [] (Some n) ns e =
    let all : n ∷ [] ≡ ns = some_is (n ∷ []) ns e in
    (ap text_of_numbers all, subst (λ (x : List ℕ). 1 ≤ length x) all (omega arith))
one_text (c ∷ cs) number ns e = at_octet number c cs ns (c == 32) refl e (one_text cs)

numbers_text : (cs ns : List ℕ) → numbers_behind None cs ≡ Some ns → cs ≡ text_of_numbers ns
unfolding Later IsTextOf
numbers_text cs ns e = (one_text cs None ns e).0

by_mark : (c : ℕ) (cs ns : List ℕ) (b : Bool) → (c == 120) ≡ b
    → ((rest : List ℕ) → c ∷ cs ≡ 120 ∷ rest → ⊥)
    → (if b then octets_read (decode_of cs) else numbers_behind None (c ∷ cs)) ≡ Some ns
    → c ∷ cs ≡ text_of_numbers ns
by_mark c cs ns true is other e =
    let mark : c ≡ 120 = grind arith in absurd (other cs (ap (λ x. x ∷ cs) mark))
by_mark c cs ns false is other e = numbers_text (c ∷ cs) ns e

pub numbers_of_one : (text ns : List ℕ) → line_in text ≡ Some ns
    → ((rest : List ℕ) → text ≡ 120 ∷ rest → ⊥) → text ≡ text_of_numbers ns
numbers_of_one [] ns e other = ap text_of_numbers (some_is [] ns e)
numbers_of_one (c ∷ cs) ns e other = by_mark c cs ns (c == 120) refl other e
