-- Segments of TCP (RFC 9293) in IPv4 packets (RFC 791), between addresses for documentation (RFC
-- 5737).
use Rattle.std.specs.Prelude.{ℕ, ◌+◌, ◌-◌, ◌*◌, ◌/◌, ◌%◌, if◌then◌else◌, sum, List, [], ◌∷◌, ◌++◌}
use Rattle.std.specs.Prelude.{length}
use Rattle.std.specs.List.{flat_map}
use Rattle.record.specs.declared.capture.segment.TcpSegment.{TcpSegment}
use Rattle.record.specs.Octets.{word}

-- ---- Sums (RFC 1071)

-- octets as words of 16 bits, the high octet first; a last one alone counts as the high one
abbrev pub sum_of_words : List ℕ → ℕ
sum_of_words [] = 0
sum_of_words (high ∷ []) = high * 256
sum_of_words (high ∷ low ∷ rest) = (high * 256 + low) + sum_of_words rest

-- carries are added again
abbrev pub folded : ℕ → ℕ
folded n = n % 65536 + n / 65536

-- the complement of a sum of words that is below 2^34
unfoldable pub checksum : ℕ → ℕ
checksum n = 65535 - folded (folded (folded n))

-- ---- Packets

-- 192.0.2.2 is the gateway, 192.0.2.1 the control centre: the low half of each
abbrev pub source : TcpSegment → ℕ
source s = if s.is_up then 0x0202 else 0x0201

abbrev pub destination : TcpSegment → ℕ
destination s = if s.is_up then 0x0201 else 0x0202

abbrev pub source_port : TcpSegment → ℕ
source_port s = if s.is_up then 2404 else s.port

abbrev pub destination_port : TcpSegment → ℕ
destination_port s = if s.is_up then s.port else 2404

-- the header of the packet: version 4, no options, the length, no fragments, 64 hops, TCP
abbrev pub packet_words : TcpSegment → (size check : ℕ) → List ℕ
packet_words s size check =
    0x4500 ∷ (40 + size) ∷ 0 ∷ 0x4000 ∷ 0x4006 ∷ check ∷ 0xC000 ∷ source s ∷ 0xC000
    ∷ destination s ∷ []

-- the header of the segment: ports, numbers, flags, the window
abbrev pub segment_words : TcpSegment → (check : ℕ) → List ℕ
segment_words s check =
    source_port s ∷ destination_port s ∷ (s.sequence / 65536) ∷ (s.sequence % 65536)
    ∷ (s.acknowledged / 65536) ∷ (s.acknowledged % 65536) ∷ (0x5000 + s.flags) ∷ 0xFFFF ∷ check
    ∷ 0 ∷ []

-- what the sum of a segment counts beside its header and its data: addresses, TCP, the length
abbrev pub pseudo_words : (size : ℕ) → List ℕ
pseudo_words size = 0xC000 ∷ 0x0201 ∷ 0xC000 ∷ 0x0202 ∷ 6 ∷ (20 + size) ∷ []

abbrev pub packet_sum : TcpSegment → ℕ → ℕ
packet_sum s size = checksum (sum (packet_words s size 0))

abbrev pub segment_sum : TcpSegment → List ℕ → ℕ
segment_sum s payload =
    checksum (sum (pseudo_words (length payload)) + sum (segment_words s 0) + sum_of_words payload)

unfoldable pub packet : TcpSegment → (payload : List ℕ) → List ℕ
packet s payload =
    flat_map word (packet_words s (length payload) (packet_sum s (length payload)))
    ++ (flat_map word (segment_words s (segment_sum s payload)) ++ payload)
