-- Numbers as octets.
use Rattle.std.specs.Prelude.{ℕ, ◌+◌, ◌*◌, ◌/◌, ◌%◌, ◌^◌, ◌==◌, if◌then◌else◌, List, [], ◌∷◌}

-- 32 bits, the low octet first
unfoldable pub low_first : ℕ → List ℕ
low_first n =
    (n % 256) ∷ (n / 2 ^ 8 % 256) ∷ (n / 2 ^ 16 % 256) ∷ (n / 2 ^ 24 % 256) ∷ []

-- 32 bits, the high octet first
unfoldable pub high_first : ℕ → List ℕ
high_first n =
    (n / 2 ^ 24 % 256) ∷ (n / 2 ^ 16 % 256) ∷ (n / 2 ^ 8 % 256) ∷ (n % 256) ∷ []

-- 16 bits, the high octet first
unfoldable pub word : ℕ → List ℕ
word n = (n / 256) ∷ (n % 256) ∷ []

-- zeros up to a multiple of four octets
unfoldable pub padding : ℕ → List ℕ
padding n =
    if n % 4 == 0 then []
    else (if n % 4 == 1 then 0 ∷ 0 ∷ 0 ∷ []
    else (if n % 4 == 2 then 0 ∷ 0 ∷ [] else 0 ∷ []))

-- the length with these
abbrev pub padded : ℕ → ℕ
padded n = (n + 3) / 4 * 4
