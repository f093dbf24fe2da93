-- Octets on their way into a text.
use Rattle.std.specs.Prelude.{◌≡◌, ℕ, ◌*◌, List, ◌++◌, take, drop}
use Rattle.hex.specs.Hex.{encode_upper}

-- so many octets are spelled: what is spelled, and the octets that are left, are all of them
abbrev pub IsSpelledTo : (octets out : List ℕ) → ℕ → Type 0
IsSpelledTo octets out n = take (2 * n) out ++ encode_upper (drop n octets) ≡ encode_upper octets
