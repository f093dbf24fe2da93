-- Printable octets are ASCII.
use Rattle.std.proofs.Common.{◌≡◌, ℕ, ◌<◌, Bool, true, false, List, [], ◌∷◌, refl, arith}
use Rattle.std.proofs.lemmas.Str.{IsUtf8-from_ascii}
use Rattle.std.proofs.lemmas.Str.Ascii.{IsAscii-nil, IsAscii-cons}
use Rattle.std.specs.Prelude.{if◌then◌else◌}
use Rattle.std.specs.Str.{IsAscii, IsUtf8}
use Rattle.runlog.specs.Spoilings.{is_printable, letters}

is_small : (octet : ℕ) → is_printable octet ≡ true → octet < 128
is_small octet is = grind (arith, is)

letters_ascii : (octets : List ℕ) → IsAscii (letters octets)
letters_ascii [] = IsAscii-nil
letters_ascii (octet ∷ octets) = by (is_printable octet) refl (letters_ascii octets)
  where
    by : (b : Bool) → is_printable octet ≡ b → IsAscii (letters octets)
        → IsAscii (if b then octet ∷ letters octets else [])
    by true is rest = IsAscii-cons octet (letters octets) (is_small octet is) rest
    by false is rest = IsAscii-nil

pub letters_utf8 : (octets : List ℕ) → IsUtf8 (letters octets)
letters_utf8 octets = IsUtf8-from_ascii (letters octets) (letters_ascii octets)
