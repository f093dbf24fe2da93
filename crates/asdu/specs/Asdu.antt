-- An ASDU and its octets (IEC 60870-5-101, 7.1 and 7.2): one relation, `IsAsdu`.
use Rattle.std.specs.Prelude.{◌≡◌, ℕ, suc, ◌+◌, ◌^◌, ◌<◌, ◌≤◌, Bool, true, false, if◌then◌else◌}
use Rattle.std.specs.Prelude.{List, [], ◌∷◌, ◌++◌, length, Option, Some, None, ⊤}
use Rattle.std.specs.List.{flat_map, AllByRecursion}
use Rattle.byteorder.specs.Endian.{little_bytes}
use Rattle.elements.specs.declared.types.TypeId.{TypeId}
use Rattle.elements.specs.Types.{row}
use Rattle.elements.specs.Octets.{AreOctets}
use Rattle.asdu.specs.Sizes.{ca_len, ioa_len}
use Rattle.asdu.specs.declared.sizes.CauseSize.{CauseSize}
use Rattle.asdu.specs.declared.sizes.CauseSize.TheVariants as causes
use Rattle.asdu.specs.declared.sizes.Sizes.{Sizes}

-- ---- Values

-- An information object within its ASDU: its address, the octets of its element, and those of its
-- time tag, if it has one (7.2.5, 7.2.6).
pub record Info : Type 0 where
  pub address : ℕ
  pub element : List ℕ
  pub tag : Option (List ℕ)

-- What stands in an ASDU. The cause is the whole octet, with test and P/N (7.2.3). The originator
-- is 0 if the cause has one octet. `sequence` is SQ (7.2.2): the objects have successive addresses.
pub record AsduValue : Type 0 where
  pub kind : TypeId
  pub sequence : Bool
  pub cause : ℕ
  pub originator : ℕ
  pub ca : ℕ
  pub infos : List Info

-- ---- The spelling

-- CP56Time2a has seven octets (7.2.6.18).
abbrev pub tag_len : TypeId → ℕ
tag_len t = if (row t).tagged then 7 else 0

-- the octets of an element and its tag
abbrev pub content_len : TypeId → ℕ
content_len t = (row t).size + tag_len t

abbrev pub tag_octets : Option (List ℕ) → List ℕ
tag_octets None = []
tag_octets (Some octets) = octets

abbrev pub content : Info → List ℕ
content i = i.element ++ tag_octets i.tag

-- an object with its address, of w octets, the low octet first
abbrev pub located : ℕ → Info → List ℕ
located w i = little_bytes w i.address ++ content i

-- The objects (7.2.2.1): with SQ 0 each has its address, with SQ 1 the first address stands before
-- all the contents.
abbrev pub body : ℕ → Bool → List Info → List ℕ
body w false is = flat_map (located w) is
body w true [] = []
body w true (i ∷ is) = little_bytes w i.address ++ flat_map content (i ∷ is)

-- the variable structure qualifier: SQ in bit 7, the number of objects in bits 6 to 0 (7.2.2)
abbrev pub vsq : Bool → ℕ → ℕ
vsq sequence n = (if sequence then 128 else 0) + n

-- the second octet of the cause (7.2.3)
abbrev pub originator_octets : CauseSize → ℕ → List ℕ
originator_octets causes.One o = []
originator_octets causes.Two o = o ∷ []

-- the data unit identifier (7.1): type, variable structure qualifier, cause, originator, common
-- address
abbrev pub header : Sizes → TypeId → Bool → ℕ → ℕ → ℕ → ℕ → List ℕ
header s t sequence n cause originator ca =
    (row t).code ∷ vsq sequence n ∷ cause
    ∷ (originator_octets s.cause originator ++ little_bytes (ca_len s.ca) ca)

abbrev pub spelled : Sizes → AsduValue → List ℕ
spelled s u =
    header s u.kind u.sequence (length u.infos) u.cause u.originator u.ca
    ++ body (ioa_len s.ioa) u.sequence u.infos

-- ---- What fits the sizes

-- a tag of seven octets if the type is tagged, and else none
abbrev pub IsTag : Bool → Option (List ℕ) → Type 0
IsTag true None = ⊥
IsTag true (Some octets) = (length octets ≡ 7) × AreOctets octets
IsTag false None = ⊤
IsTag false (Some octets) = ⊥

-- an object of type t, its address of w octets
pub record IsInfo (t : TypeId) (w : ℕ) (i : Info) : Type 0 where
  pub address : i.address < 256 ^ w
  pub size : length i.element ≡ (row t).size
  pub octets : AreOctets i.element
  pub tag : IsTag (row t).tagged i.tag

-- the addresses count up from a
abbrev pub AreSuccessive : ℕ → List Info → Type 0
AreSuccessive a [] = ⊤
AreSuccessive a (i ∷ is) = (i.address ≡ a) × AreSuccessive (suc a) is

abbrev pub AreInOrder : Bool → List Info → Type 0
AreInOrder false is = ⊤
AreInOrder true [] = ⊤
AreInOrder true (i ∷ is) = AreSuccessive i.address (i ∷ is)

-- no originator if the cause has one octet
abbrev pub IsOriginator : CauseSize → ℕ → Type 0
IsOriginator causes.One o = o ≡ 0
IsOriginator causes.Two o = o < 256

-- An ASDU that has a spelling in these sizes: 1 to 127 objects, numbers that fit, and with SQ 1
-- successive addresses that all fit. SQ 1 goes with every type (this gateway's own profile).
pub record FitsSizes (s : Sizes) (u : AsduValue) : Type 0 where
  pub some : 1 ≤ length u.infos
  pub most : length u.infos ≤ 127
  pub cause : u.cause < 256
  pub originator : IsOriginator s.cause u.originator
  pub ca : u.ca < 256 ^ ca_len s.ca
  pub infos : AllByRecursion (IsInfo u.kind (ioa_len s.ioa)) u.infos
  pub order : AreInOrder u.sequence u.infos

-- ---- The relation

-- in these sizes the octets are this ASDU, and nothing more
pub record IsAsdu (s : Sizes) (u : AsduValue) (xs : List ℕ) : Type 0 where
  pub value : FitsSizes s u
  pub octets : xs ≡ spelled s u

-- in these sizes they are no ASDU
abbrev pub IsNoAsdu : Sizes → List ℕ → Type 0
IsNoAsdu s xs = (u : AsduValue) → IsAsdu s u xs → ⊥
