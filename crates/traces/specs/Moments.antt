-- Moments that are spelled (texts of this gateway's own profile).
use Rattle.std.specs.Prelude.{◌≡◌, ℕ, ◌<◌, List, ◌++◌, drop}
use Rattle.std.specs.Fmt.{decimal}

-- The octets of the row from this place on are the number in decimal, and those behind its half.
abbrev pub IsSpelled : (number : ℕ) → (row : List ℕ) → (start : ℕ) → Type 0
IsSpelled number row start = (start < 20) × (drop start row ≡ decimal number ++ drop 20 row)
