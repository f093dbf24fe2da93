-- Numbers as text (this gateway's own profile).
use Rattle.std.specs.Prelude.{ℕ, ◌+◌, ◌*◌, ◌/◌, ◌%◌, ◌^◌, ◌==◌, Bool, if◌then◌else◌, codes, List}
use Rattle.std.specs.Prelude.{[], ◌++◌}
use Rattle.std.specs.Fmt.{decimal}

-- a text if bit n of an octet is set; bit 0 is the lowest
unfoldable pub mark : ℕ → ℕ → List ℕ → List ℕ
mark n octet text = if octet / 2 ^ n % 2 == 1 then text else []

-- the last two, three and six decimal digits of a number
unfoldable pub two_digits : ℕ → List ℕ
two_digits n = decimal (n / 10 % 10) ++ decimal (n % 10)

unfoldable pub three_digits : ℕ → List ℕ
three_digits n = decimal (n / 100 % 10) ++ two_digits n

unfoldable pub six_digits : ℕ → List ℕ
six_digits n = three_digits (n / 1000) ++ three_digits n

-- n / 2 ^ k in millionths, rounded to the nearest one
abbrev pub millionths : (n k : ℕ) → ℕ
millionths n k = (n * 2000000 / 2 ^ k + 1) / 2

-- so many millionths, with a point
unfoldable pub pointed : ℕ → List ℕ
pointed n = decimal (n / 1000000) ++ (codes "." ++ six_digits n)

-- a minus if there is one
abbrev pub minus : Bool → List ℕ
minus is_negative = if is_negative then codes "-" else []
