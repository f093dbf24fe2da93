-- The gateway's own answer to an ASDU (IEC 60870-5-101, 7.2.3: test bit, P/N and cause stand in one
-- octet).
use Rattle.std.specs.Prelude.{ℕ, ◌+◌, ◌*◌, ◌/◌, ◌%◌, ◌==◌, if◌then◌else◌, List, ◌∷◌, ◌++◌, take}
use Rattle.std.specs.Prelude.{drop, slice_index}

-- the octets of the cause: test bit kept, P/N set, this cause
abbrev pub refused_cause : ℕ → ℕ → ℕ
refused_cause cause octet = octet / 128 * 128 + 64 + cause

-- the ASDU that came with its cause octet replaced
abbrev pub answer : ℕ → List ℕ → List ℕ
answer cause xs = take 2 xs ++ refused_cause cause (slice_index xs 2) ∷ drop 3 xs

-- the cause of a negative answer: activation con (7) to an activation (6), deactivation con (9) to
-- a deactivation (8)
abbrev pub negative : List ℕ → ℕ
negative xs = if slice_index xs 2 % 64 == 6 then 7 else 9
