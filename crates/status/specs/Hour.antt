-- The queue in the last hour (this gateway's own profile).
use Rattle.std.specs.Prelude.{ℕ, ◌-◌, ◌==◌, nat_le, Bool, true, List, [], ◌∷◌, ◌++◌, length, drop}
use Rattle.std.specs.Prelude.{Option, Some, None, if◌then◌else◌}

-- the numbers, the oldest first, and when the last was noted
pub record Samples : Type 0 where
  pub numbers : List ℕ
  pub noted_ms : Option ℕ

-- a minute has passed since then
abbrev pub is_due : (now : ℕ) → Option ℕ → Bool
is_due now (Some noted) = nat_le 60000 (now - noted)
is_due now None = true

-- of 60 numbers the oldest goes
abbrev pub with_room : List ℕ → List ℕ
with_room numbers = if length numbers == 60 then drop 1 numbers else numbers

abbrev pub noted : (now taken : ℕ) → Samples → Samples
noted now taken s =
    if is_due now s.noted_ms
    then record { numbers = with_room s.numbers ++ taken ∷ []; noted_ms = Some now } else s
