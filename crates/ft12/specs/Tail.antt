-- What stands where some octets, their sum and the end octet are due.
use Rattle.std.specs.Prelude.{◌≡◌, ℕ, ◌+◌, ◌<◌, ◌%◌, List, length, take, sum, slice_index}
use Rattle.ft12.specs.declared.reading.Tail.{Tail}
use Rattle.ft12.specs.declared.reading.Tail.TheVariants.{Complete, Incomplete, WrongSum, WrongEnd}

-- what stands where len octets, their sum and the end octet are due
abbrev pub IsTail : ℕ → List ℕ → Tail → Type 0
IsTail len octets Complete =
    (len + 1 < length octets) × (slice_index octets len ≡ sum (take len octets) % 256)
    × (slice_index octets (len + 1) ≡ 0x16)
IsTail len octets Incomplete =
    (length octets < len + 2)
    × (len < length octets → slice_index octets len ≡ sum (take len octets) % 256)
IsTail len octets WrongSum =
    (len < length octets) × (slice_index octets len ≡ sum (take len octets) % 256 → ⊥)
IsTail len octets WrongEnd =
    (len + 1 < length octets) × (slice_index octets len ≡ sum (take len octets) % 256)
    × (slice_index octets (len + 1) ≡ 0x16 → ⊥)
