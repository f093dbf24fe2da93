-- How a command stands on the line, octet by octet, whatever its numbers are (IEC 60870-5-101, 7.1,
-- 7.2 and 7.3.2).
use Rattle.std.specs.Prelude.{◌≡◌, ℕ, List, ◌∷◌, ◌++◌}
use Rattle.byteorder.specs.Endian.{little_bytes}
use Rattle.asdu.specs.Asdu.{originator_octets}
use Rattle.asdu.specs.Sizes.{ca_len, ioa_len}
use Rattle.asdu.specs.declared.sizes.Sizes.{Sizes}
use Rattle.command.specs.declared.station.StationInfo.{StationInfo}
use Rattle.command.specs.History.{line_octets}
use Rattle.command.specs.Numbers.{Numbers, Tag, command_with, object_of, one_octet, set_point}
use Rattle.command.specs.Numbers.{one_octet_tagged, set_point_tagged}

-- The type without a tag, one object, and the cause octet as it came; the originator, if causes
-- have two octets; the station's common address; the object address; and the element as it came,
-- with its S/E and all other bits.
abbrev pub HasLineForm : (kind plain : ℕ) → (rest element : List ℕ) → Type 0
HasLineForm kind plain rest element =
    (sizes : Sizes) (station : StationInfo) (n : Numbers) →
    line_octets sizes (command_with kind n rest) station
    ≡ plain ∷ 1 ∷ n.cause
    ∷ (originator_octets sizes.cause n.originator
    ++ (little_bytes (ca_len sizes.ca) station.ca
    ++ (little_bytes (ioa_len sizes.ioa) (object_of n) ++ element)))

pub record LinesAreSpelled : Type 0 where
  pub single : (x : ℕ) → HasLineForm 45 45 (one_octet x) (one_octet x)
  pub double : (x : ℕ) → HasLineForm 46 46 (one_octet x) (one_octet x)
  pub step : (x : ℕ) → HasLineForm 47 47 (one_octet x) (one_octet x)
  pub normalised : (a b x : ℕ) → HasLineForm 48 48 (set_point a b x) (set_point a b x)
  pub scaled : (a b x : ℕ) → HasLineForm 49 49 (set_point a b x) (set_point a b x)
  pub tagged_single : (t : Tag) (x : ℕ) → HasLineForm 58 45 (one_octet_tagged t x) (one_octet x)
  pub tagged_double : (t : Tag) (x : ℕ) → HasLineForm 59 46 (one_octet_tagged t x) (one_octet x)
  pub tagged_step : (t : Tag) (x : ℕ) → HasLineForm 60 47 (one_octet_tagged t x) (one_octet x)
  pub tagged_normalised : (t : Tag) (a b x : ℕ) →
      HasLineForm 61 48 (set_point_tagged t a b x) (set_point a b x)
  pub tagged_scaled : (t : Tag) (a b x : ℕ) →
      HasLineForm 62 49 (set_point_tagged t a b x) (set_point a b x)
  pub interrogation : (x : ℕ) → HasLineForm 100 100 (one_octet x) (one_octet x)
