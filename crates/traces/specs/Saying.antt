-- What stands in a line that logs an event, field by field (texts of this gateway's own profile).
use Rattle.std.specs.Prelude.{◌≡◌, ◌<◌, ◌≤◌, ◌⊎◌, ℕ, ◌*◌, ◌==◌, true, List, [], ◌∷◌, codes}
use Rattle.std.specs.Prelude.{length, Some}
use Rattle.std.specs.Char.{is_ascii_digit}
use Rattle.std.specs.List.{slice_split, list_all}
use Rattle.hex.specs.Hex.{is_hex_digit}
use Rattle.traces.specs.Event.{Event, line, opening, received, cut, tick, wall}
use Rattle.traces.specs.Fields.{decimal_of, octets_of}

-- 1 to 15 decimal digits and nothing else write this number
pub record AreDigitsOf (digits : List ℕ) (number : ℕ) : Type 0 where
  pub are : decimal_of digits ≡ Some number
  pub some : 1 ≤ length digits
  pub most : length digits ≤ 15
  pub all : list_all is_ascii_digit digits ≡ true

-- two digits for each octet, and nothing else, write these
pub record AreHexOf (text octets : List ℕ) : Type 0 where
  pub are : octets_of text ≡ Some octets
  pub twice : length text ≡ 2 * length octets
  pub all : list_all is_hex_digit text ≡ true

abbrev pub letter_of : Event → List ℕ
letter_of (line now octets) = codes "S"
letter_of (opening now) = codes "O"
letter_of (received now octets) = codes "R"
letter_of (cut now) = codes "C"
letter_of (tick now) = codes "T"
letter_of (wall now number) = codes "W"

abbrev pub moment_in : Event → ℕ
moment_in (line now octets) = now
moment_in (opening now) = now
moment_in (received now octets) = now
moment_in (cut now) = now
moment_in (tick now) = now
moment_in (wall now number) = now

-- one field behind the letter, or none
abbrev pub AreValuesOf : Event → List (List ℕ) → Type 0
AreValuesOf (line now octets) values =
    (text : List ℕ) × (values ≡ text ∷ []) × AreHexOf text octets
AreValuesOf (received now octets) values =
    (text : List ℕ) × (values ≡ text ∷ []) × AreHexOf text octets
AreValuesOf (wall now number) values =
    (text : List ℕ) × (values ≡ text ∷ []) × AreDigitsOf text number
AreValuesOf event values = values ≡ []

-- The fields of the line, each behind one space, are the digits of the moment, the letter of the
-- event, and its octets or its number.
pub record Says (text : List ℕ) (event : Event) : Type 0 where
  pub moment : List ℕ
  pub values : List (List ℕ)
  pub fields : slice_split (λ b. b == 32) text ≡ moment ∷ letter_of event ∷ values
  pub digits : AreDigitsOf moment (moment_in event)
  pub valued : AreValuesOf event values
