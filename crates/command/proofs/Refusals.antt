-- An own answer is the ASDU that came, refused.
use Rattle.std.proofs.Common.{◌≡◌, ◌≢◌, ℕ, zero, suc, ◌+◌, ◌*◌, ◌/◌, ◌%◌, ◌<◌, ◌≤◌, true, List, []}
use Rattle.std.proofs.Common.{◌∷◌, length, slice_index, refl, arith}
use Rattle.std.specs.Prelude.{nat_le}
use Rattle.command.specs.Standard.{is_test, IsRefusal}
use Rattle.command.specs.Octets.{answer, refused_cause}

same_test_bit : (cause z : ℕ) → cause < 64 → z < 256 → is_test (refused_cause cause z) ≡ is_test z
same_test_bit cause z known octet = by (z / 128) refl (omega (arith, octet))
  where
    by : (q : ℕ) → z / 128 ≡ q → q < 2 → is_test (refused_cause cause z) ≡ is_test z
    by zero e h = (let low : z < 128 = omega (arith, e) in rw e (grind (arith, low, known)))
    by (suc zero) e h = (let high : 128 ≤ z = omega (arith, e) in rw e (grind (arith, high, known)))
    by (suc (suc q)) e h = absurd (omega (arith, h))

is_negative : (cause z : ℕ) → cause < 64 → nat_le 64 (refused_cause cause z % 128) ≡ true
is_negative cause z known = (let low : (z / 128 * 128 + 64 + cause) % 128 ≡ 64 + cause =
    omega (arith, known) in
    rw low (grind arith))

other_octets : (cause x y z : ℕ) (zs : List ℕ) (k : ℕ) → k ≢ 2
    → slice_index (answer cause (x ∷ y ∷ z ∷ zs)) k ≡ slice_index (x ∷ y ∷ z ∷ zs) k
other_octets cause x y z zs zero h = refl
other_octets cause x y z zs (suc zero) h = refl
other_octets cause x y z zs (suc (suc zero)) h = absurd (h refl)
other_octets cause x y z zs (suc (suc (suc k))) h = refl

pub refuses : (cause : ℕ) (xs : List ℕ) → cause < 64 → 9 ≤ length xs → slice_index xs 2 < 256
    → IsRefusal cause xs (answer cause xs)
refuses cause [] known long octet = absurd (omega (arith, long))
refuses cause (x ∷ []) known long octet = absurd (omega (arith, long))
refuses cause (x ∷ y ∷ []) known long octet = absurd (omega (arith, long))
refuses cause (x ∷ y ∷ z ∷ zs) known long octet = record {
  same_length = refl;
  same_octets = other_octets cause x y z zs;
  new_cause = (let low : (z / 128 * 128 + 64 + cause) % 64 ≡ cause = omega (arith, known) in low);
  negative = is_negative cause z known;
  test = same_test_bit cause z known octet;
}
