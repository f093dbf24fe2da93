-- Parts of an octet.
use Rattle.std.specs.Prelude.{ℕ, ◌/◌, ◌%◌, ◌^◌, Bool, if◌then◌else◌}

-- one bit; bit 0 is the lowest
abbrev pub bit : ℕ → ℕ → ℕ
bit n octet = octet / 2 ^ n % 2

-- 1 if it is set
abbrev pub flag : Bool → ℕ
flag b = if b then 1 else 0
