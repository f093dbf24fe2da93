-- How many octets packets have.
use Rattle.std.proofs.Common.{◌≡◌, ◌<◌, ◌≤◌, ◌^◌, ℕ, ◌+◌, ◌++◌, Bool, true, false, List, codes}
use Rattle.std.proofs.Common.{length, arith}
use Rattle.std.proofs.lemmas.Fmt.{length-decimal-le, length-decimal-le_wide}
use Rattle.std.proofs.lemmas.List.{length-append}
use Rattle.std.specs.Fmt.{decimal}
use Rattle.record.specs.declared.capture.segment.TcpSegment.{TcpSegment}
use Rattle.record.specs.Octets.{high_first, word}
use Rattle.record.specs.Segments.{packet}
use Rattle.record.specs.Wires.{gap_comment, serial_octets, way_octets}

pub packet_length : (s : TcpSegment) (payload : List ℕ) →
    length (packet s payload) ≡ 40 + length payload
unfolding packet word
packet_length s payload = omega arith

pub serial_length : (micros : ℕ) (is_request : Bool) (octets : List ℕ) →
    length (serial_octets micros is_request octets) ≡ 12 + length octets
unfolding serial_octets high_first way_octets
serial_length micros true octets = omega arith
serial_length micros false octets = omega arith

-- two numbers of 20 digits at most, and some words
pub gap_short : (station session : ℕ) → station < 2 ^ 64 → session < 2 ^ 64 →
    length (gap_comment station session) < 2 ^ 16
gap_short station session fits fits_too =
    let number = decimal (station + 1) in
    let tail = codes ", session " ++ decimal session in
    let joined : length (number ++ tail) ≡ length number + length tail =
    length-append number tail in
    let few : length number ≤ 20 =
    length-decimal-le_wide 20 (station + 1) (omega arith) (omega arith) (omega arith) in
    let few_too : length (decimal session) ≤ 20 =
    length-decimal-le 20 session (omega arith) (omega arith) fits_too in
    omega arith
