use Rattle.std.proofs.Common.{◌≡◌, ◌+◌, ◌-◌, ◌^◌, ◌≤◌, ℕ, arith, inl, inr}
use Rattle.std.proofs.Math.Nat.{min-eq_left, min-le_left}
use Rattle.std.specs.Io.Iter.{u64_saturate}
use Rattle.segments.proofs.laws.the_next_number_is_new.Goals as goal

pub returns-clause-above : goal.returns-clause-above
returns-clause-above c number file head above fits holds few =
    let whole : u64_saturate (head.number + 1) ≡ head.number + 1 =
    min-eq_left (omega (arith, few)) in
    omega (arith, above head fits holds, whole)

saturates : (n : ℕ) → u64_saturate n ≤ n
saturates n = min-le_left n (2 ^ 64 - 1)

pub returns-clause-next : goal.returns-clause-next
returns-clause-next c number newest other next more = elim next [
  | inl first ↦ absurd (omega (arith, first, more))
  | inr (inl behind) ↦ (
    behind.0,
    behind.1,
    inl behind.2,
    omega (arith, behind.3, saturates (behind.0.number + 1)),
  )
  | inr (inr behind) ↦ (
    behind.0,
    behind.1,
    inr behind.2,
    omega (arith, behind.3, saturates (behind.0.number + 1)),
  )
]
