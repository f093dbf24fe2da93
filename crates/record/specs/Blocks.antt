-- The blocks of a pcapng file (draft-ietf-opsawg-pcapng), the low octet of numbers first.
use Rattle.std.specs.Prelude.{ℕ, ◌+◌, ◌*◌, ◌/◌, ◌%◌, ◌^◌, List, [], ◌∷◌, ◌++◌, length}
use Rattle.record.specs.declared.capture.pcapng.Interface.{Interface}
use Rattle.record.specs.declared.capture.pcapng.Interface.TheVariants.{Connection, Line}
use Rattle.record.specs.Octets.{low_first, padded, padding}

-- the number of an interface
abbrev pub number_of : Interface → ℕ
number_of Connection = 0
number_of Line = 1

-- octets, up to a multiple of four
unfoldable pub padded_octets : List ℕ → List ℕ
padded_octets octets = octets ++ padding (length octets)

-- a comment (option 1), and the end of options; no comment has none
unfoldable pub comment_option : List ℕ → List ℕ
comment_option [] = []
comment_option (c ∷ cs) =
    low_first (1 + length (c ∷ cs) * 65536) ++ (padded_octets (c ∷ cs) ++ low_first 0)

abbrev pub option_length : List ℕ → ℕ
option_length [] = 0
option_length (c ∷ cs) = 8 + padded (length (c ∷ cs))

-- the length of the block of a packet
abbrev pub block_length : (packet comment : List ℕ) → ℕ
block_length packet comment = 32 + padded (length packet) + option_length comment

-- when, in microseconds since 1970-01-01 UTC: the high 32 bits first
unfoldable pub stamp : ℕ → List ℕ
stamp micros = low_first (micros / 2 ^ 32) ++ low_first (micros % 2 ^ 32)

-- what was captured, and what there was: all
unfoldable pub sized : List ℕ → List ℕ
sized packet =
    low_first (length packet) ++ (low_first (length packet) ++ padded_octets packet)

-- type 6, its length, the interface, the moment
unfoldable pub front : (interface micros : ℕ) → (packet comment : List ℕ) → List ℕ
front interface micros packet comment =
    low_first 6 ++ (low_first (block_length packet comment)
    ++ (low_first interface ++ stamp micros))

-- the comment, and the length again
unfoldable pub back : (packet comment : List ℕ) → List ℕ
back packet comment = comment_option comment ++ low_first (block_length packet comment)

-- an enhanced packet block
unfoldable pub block : (interface micros : ℕ) → (packet comment : List ℕ) → List ℕ
block interface micros packet comment =
    front interface micros packet comment ++ (sized packet ++ back packet comment)

-- A section header: type, length, byte order, version 1.0, a length of the section that isn't
-- given.
abbrev pub section_header : List ℕ
section_header =
    0x0A ∷ 0x0D ∷ 0x0D ∷ 0x0A ∷ 28 ∷ 0 ∷ 0 ∷ 0 ∷ 0x4D ∷ 0x3C ∷ 0x2B ∷ 0x1A ∷ 1 ∷ 0 ∷ 0 ∷ 0
    ∷ 0xFF ∷ 0xFF ∷ 0xFF ∷ 0xFF ∷ 0xFF ∷ 0xFF ∷ 0xFF ∷ 0xFF ∷ 28 ∷ 0 ∷ 0 ∷ 0 ∷ []

-- an interface: type, length, what its packets are, no limit
abbrev pub interface_block : (link_type : ℕ) → List ℕ
interface_block link_type =
    1 ∷ 0 ∷ 0 ∷ 0 ∷ 20 ∷ 0 ∷ 0 ∷ 0 ∷ link_type ∷ 0 ∷ 0 ∷ 0 ∷ 0 ∷ 0 ∷ 0 ∷ 0
    ∷ 20 ∷ 0 ∷ 0 ∷ 0 ∷ []

-- interface 0 has IPv4 packets (228), interface 1 octets of a serial line (RTAC, 250)
abbrev pub file_header : List ℕ
file_header = section_header ++ (interface_block 228 ++ interface_block 250)
