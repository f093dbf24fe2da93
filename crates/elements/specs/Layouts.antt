-- The layouts that information elements share (IEC 60870-5-101, 7.2.6): their octets, the low one
-- first, and what fits them.
use Rattle.std.specs.Prelude.{ℕ, ℤ, ◌<◌, ◌^◌, ◌++◌, List, [], ◌∷◌, FitsSigned}
use Rattle.std.specs.Int.{w16, w32, cast_signed, cast_unsigned}
use Rattle.byteorder.specs.Endian.{little_bytes, little_number}

-- one octet
abbrev pub octet : ℕ → List ℕ
octet n = n ∷ []

abbrev pub IsOctet : ℕ → Type 0
IsOctet n = n < 2 ^ 8

-- 16 bits in two's complement, then a qualifier
abbrev pub short : ℤ → ℕ → List ℕ
short z q = little_bytes 2 (cast_unsigned w16 z) ++ q ∷ []

abbrev pub short_at : List ℕ → ℤ
short_at xs = cast_signed w16 (little_number 2 xs)

abbrev pub IsShort : ℤ → ℕ → Type 0
IsShort z q = FitsSigned w16 z × IsOctet q

-- 32 bits, then a qualifier
abbrev pub word : ℕ → ℕ → List ℕ
word n q = little_bytes 4 n ++ q ∷ []

abbrev pub word_at : List ℕ → ℕ
word_at xs = little_number 4 xs

abbrev pub IsWord : ℕ → ℕ → Type 0
IsWord n q = (n < 2 ^ 32) × IsOctet q

-- the same in two's complement
abbrev pub long : ℤ → ℕ → List ℕ
long z q = little_bytes 4 (cast_unsigned w32 z) ++ q ∷ []

abbrev pub long_at : List ℕ → ℤ
long_at xs = cast_signed w32 (little_number 4 xs)

abbrev pub IsLong : ℤ → ℕ → Type 0
IsLong z q = FitsSigned w32 z × IsOctet q
