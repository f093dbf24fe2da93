-- The fields of a line (texts of this gateway's own profile): moments and octets.
use Rattle.std.specs.Prelude.{ℕ, ◌+◌, ◌*◌, ◌-◌, ◌==◌, nat_le, ◌&&◌, if◌then◌else◌, List, [], ◌∷◌}
use Rattle.std.specs.Prelude.{length, Option, Some, None, Result, Ok, Err}
use Rattle.std.specs.List.{slice_split}
use Rattle.hex.specs.Hex.{decode_of}
use Rattle.hex.specs.declared.error.FromHexError.{FromHexError}

-- the number that decimal digits write after those of n; 48 is `0` and 57 is `9`
abbrev pub digits_after : ℕ → List ℕ → Option ℕ
digits_after n [] = Some n
digits_after n (d ∷ ds) =
    if nat_le 48 d && nat_le d 57 then digits_after (n * 10 + (d - 48)) ds else None

-- a number of 1 to 15 decimal digits
abbrev pub decimal_of : List ℕ → Option ℕ
decimal_of ds = if nat_le 1 (length ds) && nat_le (length ds) 15 then digits_after 0 ds else None

-- octets, if there are 1 to 1,024
abbrev pub some_octets : Result (List ℕ) FromHexError → Option (List ℕ)
some_octets (Ok octets) =
    if nat_le 1 (length octets) && nat_le (length octets) 1024 then Some octets else None
some_octets (Err e) = None

-- 1 to 1,024 octets in hexadecimal, each two digits of either case
abbrev pub octets_of : List ℕ → Option (List ℕ)
octets_of text = some_octets (decode_of text)

-- the parts of what follows a separator, if there is one
abbrev pub parts_after : ℕ → Option (List ℕ) → List (List ℕ)
parts_after separator None = []
parts_after separator (Some text) = slice_split (λ b. b == separator) text
