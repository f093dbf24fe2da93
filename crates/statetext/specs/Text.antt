-- The text of lines of numbers and of lines of octets (profile).
use Rattle.std.specs.Prelude.{◌≡◌, ℕ, ◌+◌, ◌*◌, ◌-◌, ◌^◌, ◌==◌, nat_le, nat_lt, ◌&&◌}
use Rattle.std.specs.Prelude.{if◌then◌else◌, List, [], ◌∷◌, ◌++◌, Option, Some, None}
use Rattle.std.specs.Prelude.{option_map, Result, Ok, Err}
use Rattle.std.specs.Option.{option_and_then}
use Rattle.std.specs.List.{slice_split}
use Rattle.std.specs.Fmt.{decimal}
use Rattle.hex.specs.Hex.{encode_lower, decode_of}
use Rattle.hex.specs.declared.error.FromHexError.{FromHexError}

-- Printing

-- numbers behind another one: each in decimal behind a space (32)
abbrev pub text_behind : List ℕ → List ℕ
text_behind [] = []
text_behind (n ∷ ns) = 32 ∷ (decimal n ++ text_behind ns)

-- a line of numbers: in decimal, one space between two
abbrev pub text_of_numbers : List ℕ → List ℕ
text_of_numbers [] = []
text_of_numbers (n ∷ ns) = decimal n ++ text_behind ns

-- a line of octets: in hexadecimal behind an `x` (120)
abbrev pub text_of_octets : List ℕ → List ℕ
text_of_octets octets = 120 ∷ encode_lower octets

-- Reading

-- a number with one more digit behind it; none has more than 64 bits, none begins with 0 but 0
-- itself
abbrev pub with_digit : Option ℕ → ℕ → Option ℕ
with_digit None c = if nat_le 48 c && nat_le c 57 then Some (c - 48) else None
with_digit (Some n) c =
    if nat_le 48 c && nat_le c 57 && nat_le 1 n && nat_lt (n * 10 + (c - 48)) (2 ^ 64)
    then Some (n * 10 + (c - 48)) else None

-- a number before others
abbrev pub before : Option ℕ → Option (List ℕ) → Option (List ℕ)
before None others = None
before (Some n) others = option_map (λ ns. n ∷ ns) others

-- the numbers of a text with one space between two, if the digits before it spell this number
abbrev pub numbers_behind : Option ℕ → List ℕ → Option (List ℕ)
numbers_behind number [] = before number (Some [])
numbers_behind number (c ∷ cs) =
    if c == 32 then before number (numbers_behind None cs)
    else option_and_then (λ n. numbers_behind (Some n) cs) (with_digit number c)

-- octets that are spelled in hexadecimal
abbrev pub octets_read : Result (List ℕ) FromHexError → Option (List ℕ)
octets_read (Ok octets) = Some octets
octets_read (Err fault) = None

-- what a line says, if it is one of numbers or of octets; the empty one has no number
abbrev pub line_in : List ℕ → Option (List ℕ)
line_in [] = Some []
line_in (c ∷ cs) = if c == 120 then octets_read (decode_of cs) else numbers_behind None (c ∷ cs)

-- a line before others, if it is one
abbrev pub before_lines : Option (List ℕ) → List (List ℕ) → List (List ℕ)
before_lines None lines = []
before_lines (Some line) lines = line ∷ lines

-- the lines of a text that is cut at its line feeds: what no line feed follows is no line
abbrev pub lines_of_parts : List (List ℕ) → List (List ℕ)
lines_of_parts [] = []
lines_of_parts (part ∷ []) = []
lines_of_parts (part ∷ next ∷ parts) = before_lines (line_in part) (lines_of_parts (next ∷ parts))

-- the lines that a text says, up to the first that is none
unfoldable pub lines_in : List ℕ → List (List ℕ)
lines_in text = lines_of_parts (slice_split (λ c. c == 10) text)

-- a text of whole lines: whatever comes behind it, its own lines are read first
abbrev pub IsWhole : List ℕ → Type 0
IsWhole text = (rest : List ℕ) → lines_in (text ++ rest) ≡ lines_in text ++ lines_in rest
