-- What stands where in the octets of an ASDU (IEC 60870-5-101, 7.1 and 7.2).
use Rattle.std.specs.Prelude.{◌≡◌, ℕ, zero, suc, ◌+◌, ◌%◌, Bool, true, false, nat_le, List, [], ◌∷◌}
use Rattle.std.specs.Prelude.{take, drop, slice_index, Option, Some, None}
use Rattle.byteorder.specs.Endian.{little_number}
use Rattle.elements.specs.declared.types.TypeId.{TypeId}
use Rattle.elements.specs.Types.{row}
use Rattle.asdu.specs.Sizes.{cause_len, ca_len, ioa_len, header_len}
use Rattle.asdu.specs.declared.sizes.CauseSize.{CauseSize}
use Rattle.asdu.specs.declared.sizes.CauseSize.TheVariants as causes
use Rattle.asdu.specs.declared.sizes.Sizes.{Sizes}
use Rattle.asdu.specs.declared.header.Head.{Head}
use Rattle.asdu.specs.Asdu.{AsduValue, Info, content_len}

-- ---- The header

-- bits 6 to 0 of the variable structure qualifier (7.2.2)
abbrev pub number_at : List ℕ → ℕ
number_at xs = slice_index xs 1 % 128

-- SQ, its bit 7
abbrev pub is_sequence : List ℕ → Bool
is_sequence xs = nat_le 128 (slice_index xs 1)

-- the originator, 0 if the cause has one octet (7.2.3)
abbrev pub originator_at : CauseSize → List ℕ → ℕ
originator_at causes.One xs = 0
originator_at causes.Two xs = slice_index xs 3

-- the common address (7.2.4)
abbrev pub ca_at : Sizes → List ℕ → ℕ
ca_at s xs = little_number (ca_len s.ca) (drop (2 + cause_len s.cause) xs)

-- the address of the first object (7.2.5)
abbrev pub first_address : Sizes → List ℕ → ℕ
first_address s xs = little_number (ioa_len s.ioa) (drop (header_len s) xs)

-- the header and the first object address are those of the octets
pub record IsHeadOf (s : Sizes) (xs : List ℕ) (h : Head) : Type 0 where
  pub kind : h.kind ≡ slice_index xs 0
  pub vsq : h.vsq ≡ slice_index xs 1
  pub cause : h.cause ≡ slice_index xs 2
  pub originator : h.originator ≡ originator_at s.cause xs
  pub ca : h.ca ≡ ca_at s xs
  pub ioa : h.ioa ≡ first_address s xs

-- ---- The objects

abbrev pub tag_at : Bool → List ℕ → Option (List ℕ)
tag_at true xs = Some (take 7 xs)
tag_at false xs = None

-- the object at this address, whose content stands at the front
abbrev pub info_at : TypeId → ℕ → List ℕ → Info
info_at t a xs = record {
  address = a;
  element = take (row t).size xs;
  tag = tag_at (row t).tagged (drop (row t).size xs);
}

-- n objects, each with its address of w octets
abbrev pub each_located : TypeId → ℕ → ℕ → List ℕ → List Info
each_located t w zero xs = []
each_located t w (suc n) xs =
    info_at t (little_number w xs) (drop w xs) ∷ each_located t w n (drop (w + content_len t) xs)

-- n objects at addresses from a
abbrev pub successive : TypeId → ℕ → ℕ → List ℕ → List Info
successive t a zero xs = []
successive t a (suc n) xs = info_at t a xs ∷ successive t (suc a) n (drop (content_len t) xs)

-- n objects that stand in xs
abbrev pub infos_at : TypeId → ℕ → Bool → ℕ → List ℕ → List Info
infos_at t w false n xs = each_located t w n xs
infos_at t w true n xs = successive t (little_number w xs) n (drop w xs)

-- the ASDU of type t that stands in the octets
abbrev pub value_at : Sizes → TypeId → List ℕ → AsduValue
value_at s t xs = record {
  kind = t;
  sequence = is_sequence xs;
  cause = slice_index xs 2;
  originator = originator_at s.cause xs;
  ca = ca_at s xs;
  infos = infos_at t (ioa_len s.ioa) (is_sequence xs) (number_at xs) (drop (header_len s) xs);
}
