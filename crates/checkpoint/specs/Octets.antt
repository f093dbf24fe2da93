-- Lines of octets among lines of numbers (profile).
use Rattle.std.specs.Prelude.{ℕ, ◌<◌, List}
use Rattle.std.specs.List.{All}

-- each number is an octet
abbrev pub IsOctetLine : List ℕ → Type 0
IsOctetLine line = All (λ n. n < 256) line
