-- What the laws say of words: bits, digits and numbers as they are told, in the standard's places
-- (IEC 60870-5-101, 7.2.6). No body has these words.
use Rattle.std.specs.Prelude.{ℕ, ℤ, ◌+◌, ◌-◌, ◌*◌, ◌/◌, ◌%◌, ◌^◌, ◌==◌, nat_le, codes}
use Rattle.std.specs.Prelude.{List, [], ◌++◌, if◌then◌else◌, unsigned_abs}
use Rattle.std.specs.Int.{is_negative}
use Rattle.std.specs.Fmt.{decimal, signed_decimal}

-- a text if bit n of an octet is 1; bit 0 is the lowest
abbrev pub told : (n octet : ℕ) → (text : List ℕ) → List ℕ
told n octet text = if octet / 2 ^ n % 2 == 1 then text else []

-- the last two and three digits of a number
abbrev pub two_told : ℕ → List ℕ
two_told n = decimal (n / 10 % 10) ++ decimal (n % 10)

abbrev pub three_told : ℕ → List ℕ
three_told n = decimal (n / 100 % 10) ++ two_told n

-- n / 2 ^ k with six digits behind the point, to the nearest millionth
abbrev pub millionths_told : (n k : ℕ) → List ℕ
millionths_told n k =
    let m = (n * 2000000 / 2 ^ k + 1) / 2 in
    decimal (m / 1000000) ++ (codes "." ++ (three_told (m / 1000) ++ three_told m))

-- a fraction in units of 1/32768, and these units (7.2.6.6)
abbrev pub fraction_told : ℤ → List ℕ
fraction_told z =
    ((if is_negative z then codes "-" else []) ++ millionths_told (unsigned_abs z) 15)
    ++ (codes " (" ++ (signed_decimal z ++ codes ")"))

-- S/E in bit 7 of a qualifier, and QU in bits 6 to 2 (7.2.6.26)
abbrev pub select_told : (octet : ℕ) → List ℕ
select_told q = if nat_le 128 q then codes ", select" else codes ", execute"

abbrev pub command_told : (octet : ℕ) → List ℕ
command_told q =
    let qu = q / 4 % 32 in
    select_told q
    ++ (if qu == 0 then []
    else (if qu == 1 then codes ", short pulse"
    else (if qu == 2 then codes ", long pulse"
    else (if qu == 3 then codes ", persistent" else codes ", QU " ++ decimal qu))))

-- and QL in bits 6 to 0 (7.2.6.39)
abbrev pub set_point_told : (octet : ℕ) → List ℕ
set_point_told q =
    select_told q ++ (if q % 128 == 0 then [] else codes ", QL " ++ decimal (q % 128))
