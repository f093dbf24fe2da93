-- Octets that differ in one have other sums.
use Rattle.std.proofs.Common.{◌≡◌, ◌≢◌, ◌∙◌, ℕ, ◌+◌, ◌/◌, ◌%◌, ◌^◌, ◌<◌, List, [], ◌∷◌}
use Rattle.std.proofs.Common.{◌++◌, refl, sym, ap, subst, arith, zero, suc}
use Rattle.std.specs.Prelude.{slice_index, bit_xor}
use Rattle.std.specs.List.{AllByRecursion}
use Rattle.std.specs.Int.Bits.{xor_assoc, xor_self, xor_zero_r}
use Rattle.std.proofs.lemmas.Nat.{mod_below, xor_comm, xor_of_32, xor_shr}
use Rattle.statetext.specs.Sum.{divided, remainder_after, sum_of}
use Rattle.statetext.specs.declared.sum.TheConstants.{REMAINDERS}

same_behind : (a b c : ℕ) → bit_xor a c ≡ bit_xor b c → a ≡ b
same_behind a b c is =
    sym (xor_zero_r a) ∙ ap (bit_xor a) (sym (xor_self c)) ∙ sym (xor_assoc a c c)
    ∙ ap (λ (n : ℕ). bit_xor n c) is ∙ xor_assoc b c c ∙ ap (bit_xor b) (xor_self c)
    ∙ xor_zero_r b

same_before : (a b c : ℕ) → bit_xor c a ≡ bit_xor c b → a ≡ b
same_before a b c is = same_behind a b c (xor_comm a c ∙ is ∙ xor_comm c b)

-- which remainder has these four bits at its top
abbrev tops : List ℕ
tops = 0 ∷ 1 ∷ 3 ∷ 2 ∷ 6 ∷ 7 ∷ 5 ∷ 4 ∷ 13 ∷ 12 ∷ 14 ∷ 15 ∷ 11 ∷ 10 ∷ 8 ∷ 9 ∷ []

-- of a number of four bits: its remainder has 32 bits, and tells it by its top
record IsTold (i : ℕ) : Type 0 where
  small : slice_index REMAINDERS i < 2 ^ 32
  top : slice_index tops (slice_index REMAINDERS i / 2 ^ 28) ≡ i

told_high : (i : ℕ) → i < 8 → IsTold (8 + i)
told_high zero lt = record { small = omega arith; top = refl }
told_high (suc zero) lt = record { small = omega arith; top = refl }
told_high (suc (suc zero)) lt = record { small = omega arith; top = refl }
told_high (suc (suc (suc zero))) lt = record { small = omega arith; top = refl }
told_high (suc (suc (suc (suc zero)))) lt = record { small = omega arith; top = refl }
told_high (suc (suc (suc (suc (suc zero))))) lt = record { small = omega arith; top = refl }
told_high (suc (suc (suc (suc (suc (suc zero)))))) lt = record { small = omega arith; top = refl }
told_high (suc (suc (suc (suc (suc (suc (suc zero))))))) lt =
    record { small = omega arith; top = refl }
told_high (suc (suc (suc (suc (suc (suc (suc (suc n)))))))) lt = absurd (omega (arith, lt))

told : (i : ℕ) → i < 16 → IsTold i
told zero lt = record { small = omega arith; top = refl }
told (suc zero) lt = record { small = omega arith; top = refl }
told (suc (suc zero)) lt = record { small = omega arith; top = refl }
told (suc (suc (suc zero))) lt = record { small = omega arith; top = refl }
told (suc (suc (suc (suc zero)))) lt = record { small = omega arith; top = refl }
told (suc (suc (suc (suc (suc zero))))) lt = record { small = omega arith; top = refl }
told (suc (suc (suc (suc (suc (suc zero)))))) lt = record { small = omega arith; top = refl }
told (suc (suc (suc (suc (suc (suc (suc zero))))))) lt = record { small = omega arith; top = refl }
told (suc (suc (suc (suc (suc (suc (suc (suc n)))))))) lt =
    subst IsTold (omega arith) (told_high n (omega (arith, lt)))

small_divided : (n : ℕ) → n < 2 ^ 32 → divided n < 2 ^ 32
small_divided n few =
    xor_of_32 _ _ (told (n % 16) (mod_below n 16 (omega arith))).small (omega (arith, few))

low_of : (n : ℕ) → n < 2 ^ 32 → slice_index tops (divided n / 2 ^ 28) ≡ n % 16
low_of n few =
    let t = told (n % 16) (mod_below n 16 (omega arith)) in
    let none : n / 16 / 2 ^ 28 ≡ 0 = omega (arith, few) in
    ap (slice_index tops) (xor_shr (slice_index REMAINDERS (n % 16)) (n / 16) 28
    ∙ ap (bit_xor (slice_index REMAINDERS (n % 16) / 2 ^ 28)) none
    ∙ xor_zero_r (slice_index REMAINDERS (n % 16) / 2 ^ 28)) ∙ t.top

same_divided : (m n : ℕ) → m < 2 ^ 32 → n < 2 ^ 32 → divided m ≡ divided n → m ≡ n
same_divided m n few few' is =
    let low : m % 16 ≡ n % 16 =
    sym (low_of m few) ∙ ap (λ (k : ℕ). slice_index tops (k / 2 ^ 28)) is ∙ low_of n few' in
    let high : m / 16 ≡ n / 16 =
    same_before (m / 16) (n / 16) (slice_index REMAINDERS (m % 16))
    (is ∙ ap (λ (k : ℕ). bit_xor (slice_index REMAINDERS k) (n / 16)) (sym low)) in
    omega (arith, low, high)

-- one octet
small_octet : (r c : ℕ) → r < 2 ^ 32 → c < 256 → bit_xor r c < 2 ^ 32
small_octet r c few octet = xor_of_32 r c few (omega (arith, octet))

small_step : (r c : ℕ) → r < 2 ^ 32 → c < 256 → divided (divided (bit_xor r c)) < 2 ^ 32
small_step r c few octet =
    small_divided _ (small_divided _ (small_octet r c few octet))

small_after : (r : ℕ) (cs : List ℕ) → r < 2 ^ 32 → AllByRecursion (λ c. c < 256) cs
    → remainder_after r cs < 2 ^ 32
small_after r [] few octets = few
small_after r (c ∷ cs) few octets =
    small_after (divided (divided (bit_xor r c))) cs (small_step r c few octets.0) octets.1

twice : (m n : ℕ) → m < 2 ^ 32 → n < 2 ^ 32 → divided (divided m) ≡ divided (divided n) → m ≡ n
twice m n few few' is =
    same_divided m n few few'
    (same_divided _ _ (small_divided m few) (small_divided n few') is)

same_after : (r s : ℕ) (cs : List ℕ) → r < 2 ^ 32 → s < 2 ^ 32 → AllByRecursion (λ c. c < 256) cs
    → remainder_after r cs ≡ remainder_after s cs → r ≡ s
same_after r s [] few few' octets is = is
same_after r s (c ∷ cs) few few' octets is =
    same_behind r s c (twice (bit_xor r c) (bit_xor s c) (small_octet r c few octets.0)
    (small_octet s c few' octets.0)
    (same_after (divided (divided (bit_xor r c))) (divided (divided (bit_xor s c))) cs
    (small_step r c few octets.0) (small_step s c few' octets.0) octets.1 is))

pub after_front : (r : ℕ) (front rest : List ℕ)
    → remainder_after r (front ++ rest) ≡ remainder_after (remainder_after r front) rest
after_front r [] rest = refl
after_front r (c ∷ cs) rest = after_front (divided (divided (bit_xor r c))) cs rest

pub rotten_shows : (front behind : List ℕ) (octet rotten : ℕ)
    → AllByRecursion (λ c. c < 256) front → AllByRecursion (λ c. c < 256) behind
    → octet < 256 → rotten < 256 → rotten ≢ octet
    → sum_of (front ++ rotten ∷ behind) ≢ sum_of (front ++ octet ∷ behind)
rotten_shows front behind octet rotten before after good bad other is =
    let r : ℕ = remainder_after 0xffffffff front in
    let few : r < 2 ^ 32 = small_after 0xffffffff front (omega arith) before in
    let all : remainder_after r (rotten ∷ behind) ≡ remainder_after r (octet ∷ behind) =
    sym (after_front 0xffffffff front (rotten ∷ behind))
    ∙ same_behind _ _ 0xffffffff is ∙ after_front 0xffffffff front (octet ∷ behind) in
    let one : divided (divided (bit_xor r rotten)) ≡ divided (divided (bit_xor r octet)) =
    same_after _ _ behind (small_step r rotten few bad) (small_step r octet few good) after all in
    other (same_before rotten octet r (twice _ _ (small_octet r rotten few bad)
    (small_octet r octet few good) one))
