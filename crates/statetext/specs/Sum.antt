-- CRC-32: the sum of ISO 3309, by the reflected polynomial 0xEDB88320.
use Rattle.std.specs.Prelude.{ℕ, ◌/◌, ◌%◌, List, [], ◌∷◌, slice_index, bit_xor}
use Rattle.statetext.specs.declared.sum.TheConstants.{REMAINDERS}

-- four bits of the division, by the table of the remainders of four bits
abbrev pub divided : ℕ → ℕ
divided n = bit_xor (slice_index REMAINDERS (n % 16)) (n / 16)

-- the remainder after more octets, each of which is divided in two halves
abbrev pub remainder_after : ℕ → List ℕ → ℕ
remainder_after r [] = r
remainder_after r (c ∷ cs) = remainder_after (divided (divided (bit_xor r c))) cs

-- the sum of octets
abbrev pub sum_of : List ℕ → ℕ
sum_of octets = bit_xor (remainder_after 0xffffffff octets) 0xffffffff
