-- Which octet of an ASDU stands where (IEC 60870-5-101, 7.1 and 7.2.1 to 7.2.6). An octet's place
-- is the number of octets before it. Nothing here is borrowed from `spelled`.
use Rattle.std.specs.Prelude.{◌≡◌, ℕ, ◌+◌, ◌*◌, ◌/◌, ◌%◌, ◌<◌, ◌≤◌, if◌then◌else◌, List}
use Rattle.std.specs.Prelude.{length}
use Rattle.std.specs.Prelude.{slice_index, Some, is_some}
use Rattle.elements.specs.declared.types.TypeId.{TypeId}
use Rattle.elements.specs.Types.{row}
use Rattle.asdu.specs.declared.sizes.CauseSize.{CauseSize}
use Rattle.asdu.specs.declared.sizes.CauseSize.TheVariants as causes
use Rattle.asdu.specs.declared.sizes.CaSize.{CaSize}
use Rattle.asdu.specs.declared.sizes.CaSize.TheVariants as cas
use Rattle.asdu.specs.declared.sizes.IoaSize.{IoaSize}
use Rattle.asdu.specs.declared.sizes.IoaSize.TheVariants as ioas
use Rattle.asdu.specs.declared.sizes.Sizes.{Sizes}
use Rattle.asdu.specs.Asdu.{AsduValue, Info, IsAsdu}
use Rattle.asdu.specs.InformationObjects.{InformationObject}

-- whatever the sizes, the ASDU and its octets
abbrev pub OfEachAsdu : (Sizes → AsduValue → List ℕ → Type 0) → Type 0
OfEachAsdu P = (s : Sizes) (u : AsduValue) (xs : List ℕ) → IsAsdu s u xs → P s u xs

-- ---- Places

-- The common address stands behind type, variable structure qualifier, and one or two octets of
-- cause (7.1).
abbrev pub common_address_place : CauseSize → ℕ
common_address_place causes.One = 3
common_address_place causes.Two = 4

-- the objects stand behind the common address, of one octet or two (7.2.4)
abbrev pub objects_place : CauseSize → CaSize → ℕ
objects_place cause cas.One = common_address_place cause + 1
objects_place cause cas.Two = common_address_place cause + 2

-- the octets of an object's address (7.2.5)
abbrev pub address_octets : IoaSize → ℕ
address_octets ioas.One = 1
address_octets ioas.Two = 2
address_octets ioas.Three = 3

-- the octets of an object's element, and of its time tag, which are seven (7.2.6.18)
abbrev pub content_octets : TypeId → ℕ
content_octets t = (row t).size + (if (row t).tagged then 7 else 0)

-- ---- Addresses, the low octet first

-- the common address at a place (7.2.4)
abbrev pub common_address_at : CaSize → ℕ → List ℕ → ℕ
common_address_at cas.One place xs = slice_index xs place
common_address_at cas.Two place xs = slice_index xs place + 256 * slice_index xs (place + 1)

-- the object's address at a place (7.2.5)
abbrev pub object_address_at : IoaSize → ℕ → List ℕ → ℕ
object_address_at ioas.One place xs = slice_index xs place
object_address_at ioas.Two place xs = slice_index xs place + 256 * slice_index xs (place + 1)
object_address_at ioas.Three place xs =
    slice_index xs place + 256 * slice_index xs (place + 1) + 65536 * slice_index xs (place + 2)

-- ---- Objects

-- some octets stand from a place on, in their order
abbrev pub StandFrom : ℕ → List ℕ → List ℕ → Type 0
StandFrom place octets xs =
    (j : ℕ) → j < length octets → slice_index xs (place + j) ≡ slice_index octets j

-- an object's element stands at a place, and its time tag, if its type has one, behind it (7.2.6)
pub record HasContentAt (t : TypeId) (place : ℕ) (xs : List ℕ) (i : Info) : Type 0 where
  pub size : length i.element ≡ (row t).size
  pub element : StandFrom place i.element xs
  pub tagged : is_some i.tag ≡ (row t).tagged
  pub tag_size : (tag : List ℕ) → i.tag ≡ Some tag → length tag ≡ 7
  pub tag : (tag : List ℕ) → i.tag ≡ Some tag → StandFrom (place + (row t).size) tag xs

-- With SQ 0 an object has its own address at a place, and its content behind it (7.2.2.1).
pub record StandsApart (w : IoaSize) (t : TypeId) (place : ℕ) (xs : List ℕ) (i : Info) : Type 0
  where
    pub address : object_address_at w place xs ≡ i.address
    pub content : HasContentAt t (place + address_octets w) xs i

-- With SQ 1 one address stands at a place, before all contents (7.2.2.1). It is the first object's,
-- and that of the object behind k others is k above it.
pub record StandsInSequence (w : IoaSize) (t : TypeId) (k place : ℕ) (xs : List ℕ) (i : Info)
    : Type 0
  where
    pub address : object_address_at w place xs + k ≡ i.address
    pub content : HasContentAt t (place + address_octets w + k * content_octets t) xs i

-- It is one of an ASDU's objects, in all its parts: what the ASDU says of all of them (7.2.1 to
-- 7.2.4), and its own address, element and time tag (7.2.5, 7.2.6).
pub record IsObjectOf (u : AsduValue) (i : Info) (o : InformationObject) : Type 0 where
  pub kind : o.kind ≡ u.kind
  pub cause : o.cause ≡ u.cause
  pub originator : o.originator ≡ u.originator
  pub ca : o.ca ≡ u.ca
  pub address : o.address ≡ i.address
  pub element : o.element ≡ i.element
  pub tag : o.tag ≡ i.tag

-- ---- What stays

-- one ASDU's octets have the other's type, SQ and cause octet (7.2.1 to 7.2.3)
pub record HaveOneHead (xs ys : List ℕ) : Type 0 where
  pub kind : slice_index ys 0 ≡ slice_index xs 0
  pub sequence : slice_index ys 1 / 128 ≡ slice_index xs 1 / 128
  pub cause : slice_index ys 2 ≡ slice_index xs 2
