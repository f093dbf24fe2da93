-- The counters of 15 bits against the counts, which never fall.
use Rattle.std.proofs.Common.{◌≡◌, ℕ, ◌+◌, ◌-◌, ◌%◌, ◌<◌, ◌≤◌, true, nat_le, sym, ◌∙◌, arith, inl}
use Rattle.std.proofs.Common.{inr}
use Rattle.std.proofs.lemmas.Bool.{cases_lt, lt-leb, le-leb, leb-true}
use Rattle.session.specs.History.{reached}

-- so many frames of count stay unacknowledged by nr
abbrev pub left_of : ℕ → ℕ → ℕ
left_of nr count = (count % 32768 + (32768 - nr % 32768)) % 32768

reached-valid : (a u nr : ℕ) → u < 32768 → left_of nr (a + u) ≤ u
    → reached a nr + left_of nr (a + u) ≡ a + u
reached-valid a u nr small valid = omega arith

reached-invalid : (a u nr : ℕ) → u < 32768 → u < left_of nr (a + u) → a + u < reached a nr
reached-invalid a u nr small invalid = omega arith

-- the counters show whether an N(R) is valid
pub valid_agrees : (a u nr next sent : ℕ) → u < 32768 → a + u ≡ sent → next ≡ sent % 32768
    → nat_le ((next + (32768 - nr % 32768)) % 32768) u ≡ nat_le (reached a nr) sent
valid_agrees a u nr next sent small count counter =
    let left : ℕ = (next + (32768 - nr % 32768)) % 32768 in
    elim (cases_lt u left) [
      | inl lt ↦ lt-leb left u lt
          ∙ sym (lt-leb (reached a nr) sent (omega (arith, reached-invalid a u nr small)))
      | inr le ↦ le-leb left u le
          ∙ sym (le-leb (reached a nr) sent (omega (arith, reached-valid a u nr small)))
    ]

-- and how many frames a valid one acknowledges
pub reached_newly : (a u nr next sent : ℕ) → u < 32768 → a + u ≡ sent → next ≡ sent % 32768
    → nat_le ((next + (32768 - nr % 32768)) % 32768) u ≡ true
    → reached a nr ≡ a + (u - (next + (32768 - nr % 32768)) % 32768)
reached_newly a u nr next sent small count counter valid =
    omega (arith, reached-valid a u nr small, leb-true _ _ valid)
