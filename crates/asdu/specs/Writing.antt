-- An ASDU in other sizes.
use Rattle.std.specs.Prelude.{ℕ, ◌^◌, ◌<◌, ◌≤◌, Bool, true, false, List, [], length, Option, Some}
use Rattle.std.specs.Prelude.{None}
use Rattle.std.specs.List.{flat_map, AllByRecursion}
use Rattle.byteorder.specs.Endian.{little_bytes}
use Rattle.asdu.specs.declared.sizes.CauseSize.{CauseSize}
use Rattle.asdu.specs.declared.sizes.CauseSize.TheVariants as causes
use Rattle.asdu.specs.declared.sizes.Sizes.{Sizes}
use Rattle.asdu.specs.Sizes.{ca_len, ioa_len}
use Rattle.asdu.specs.Asdu.{AsduValue, Info, content, located, header, spelled}

-- the same ASDU with these objects
abbrev pub with_infos : AsduValue → List Info → AsduValue
with_infos v is = record v { infos = is }

-- the originator in other sizes
abbrev pub carried_originator : CauseSize → ℕ → ℕ
carried_originator causes.One o = 0
carried_originator causes.Two o = o

-- the ASDU in other sizes: numbers keep their value, and there is no originator if the cause has
-- one octet
abbrev pub carried : Sizes → AsduValue → AsduValue
carried s v = record v { originator = carried_originator s.cause v.originator }

-- it has a spelling in these sizes, of at most 253 octets
pub record CanBeWritten (s : Sizes) (v : AsduValue) : Type 0 where
  pub ca : v.ca < 256 ^ ca_len s.ca
  pub addresses : AllByRecursion (λ i. i.address < 256 ^ ioa_len s.ioa) v.infos
  pub room : length (spelled s (carried s v)) ≤ 253

-- ---- The octets, in the order in which they are written

-- the header with a number of objects
abbrev pub header_of : Sizes → AsduValue → ℕ → List ℕ
header_of s v n = header s v.kind v.sequence n v.cause v.originator v.ca

-- the address before the first content, if addresses are counted
abbrev pub lead : ℕ → Option ℕ → List ℕ
lead w None = []
lead w (Some a) = little_bytes w a

abbrev pub lead_len : ℕ → Option ℕ → ℕ
lead_len w None = 0
lead_len w (Some a) = w

-- an object: its content if addresses are counted, and else its address before it
abbrev pub spelled_info : ℕ → Bool → Info → List ℕ
spelled_info w true i = content i
spelled_info w false i = located w i

abbrev pub spelled_infos : ℕ → Bool → List Info → List ℕ
spelled_infos w b is = flat_map (spelled_info w b) is
