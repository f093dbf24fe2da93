-- ASDUs worked by hand from IEC 60870-5-101 (7.1 and 7.2) and IEC 60870-5-104 (7 and 8): their
-- octets, what is refused, how reports are cut, and which commands have a tag.
use Rattle.std.specs.Prelude.{◌≡◌, ℕ, ◌+◌, true, false, ◌&&◌, nat_le, if◌then◌else◌}
use Rattle.std.specs.Prelude.{List, [], ◌∷◌, Option, Some, None, replicate}
use Rattle.elements.specs.declared.types.TypeId.{TypeId}
use Rattle.elements.specs.declared.types.TypeId.TheVariants.{MSpNa1, MMeNa1, MSpTb1, MEiNa1, CScNa1}
use Rattle.elements.specs.declared.types.TypeId.TheVariants.{CIcNa1}
use Rattle.elements.specs.Types.{row}
use Rattle.asdu.specs.declared.sizes.CauseSize.TheVariants as causes
use Rattle.asdu.specs.declared.sizes.CaSize.TheVariants as cas
use Rattle.asdu.specs.declared.sizes.IoaSize.TheVariants as ioas
use Rattle.asdu.specs.declared.sizes.Sizes.{Sizes}
use Rattle.asdu.specs.Sizes.{tcp}
use Rattle.asdu.specs.Asdu.{AsduValue, Info, spelled}
use Rattle.asdu.specs.Refusals.{refusal}
use Rattle.asdu.specs.InformationObjects.{objects_of, value_objects, is_passed_on}
use Rattle.asdu.specs.Translation.{parts}
use Rattle.asdu.specs.Tagging.{is_plain_command, is_tagged_command, tagged_type, untagged_type}

-- ---- Octets

-- one octet each
abbrev pub small : Sizes
small = record { cause = causes.One; ca = cas.One; ioa = ioas.One }

-- one octet of cause, two of each address
abbrev pub middle : Sizes
middle = record { cause = causes.One; ca = cas.Two; ioa = ioas.Two }

abbrev pub object : ℕ → List ℕ → Option (List ℕ) → Info
object address element tag = record { address = address; element = element; tag = tag }

-- Thursday 2024-02-29 12:34:56.789
abbrev pub thursday : List ℕ
thursday = 0xD5 ∷ 0xDD ∷ 0x22 ∷ 0x0C ∷ 0x9D ∷ 0x02 ∷ 0x18 ∷ []

pub record Worked : Type 0 where
  pub sizes : Sizes
  pub value : AsduValue
  pub octets : List ℕ

-- the ASDU has these octets, and its objects are read from them
abbrev pub IsWorkedSo : Worked → Type 0
IsWorkedSo e =
    (spelled e.sizes e.value ≡ e.octets) × (refusal e.sizes e.octets ≡ None)
    × (objects_of e.sizes e.octets ≡ value_objects e.value)

-- two single points with SQ 0, of cause 3 as a test
abbrev pub points : Worked
points = record {
  sizes = small;
  value = record {
    kind = MSpNa1;
    sequence = false;
    cause = 0x83;
    originator = 0;
    ca = 1;
    infos = object 100 (0x01 ∷ []) None ∷ object 101 (0xF0 ∷ []) None ∷ [];
  };
  octets = 0x01 ∷ 0x02 ∷ 0x83 ∷ 0x01 ∷ 0x64 ∷ 0x01 ∷ 0x65 ∷ 0xF0 ∷ [];
}

-- two normalised values with SQ 1, of originator 7, the second at the address after the first
abbrev pub measured : Worked
measured = record {
  sizes = tcp;
  value = record {
    kind = MMeNa1;
    sequence = true;
    cause = 3;
    originator = 7;
    ca = 1;
    infos =
        object 10 (0x00 ∷ 0x80 ∷ 0x00 ∷ []) None ∷ object 11 (0xFF ∷ 0xFF ∷ 0x80 ∷ []) None ∷ [];
  };
  octets =
      0x09 ∷ 0x82 ∷ 0x03 ∷ 0x07 ∷ 0x01 ∷ 0x00 ∷ 0x0A ∷ 0x00 ∷ 0x00 ∷ 0x00 ∷ 0x80 ∷ 0x00 ∷ 0xFF
      ∷ 0xFF ∷ 0x80 ∷ [];
}

-- a single point with a tag, addresses low octet first
abbrev pub tagged_point : Worked
tagged_point = record {
  sizes = middle;
  value = record {
    kind = MSpTb1;
    sequence = false;
    cause = 3;
    originator = 0;
    ca = 0x1234;
    infos = object 0xABCD (0x81 ∷ []) (Some thursday) ∷ [];
  };
  octets = 0x1E ∷ 0x01 ∷ 0x03 ∷ 0x34 ∷ 0x12 ∷ 0xCD ∷ 0xAB ∷ 0x81 ∷ thursday;
}

-- a negative confirmation of a single command
abbrev pub confirmation : Worked
confirmation = record {
  sizes = tcp;
  value = record {
    kind = CScNa1;
    sequence = false;
    cause = 0x47;
    originator = 9;
    ca = 0x1234;
    infos = object 0x030201 (0x81 ∷ []) None ∷ [];
  };
  octets = 0x2D ∷ 0x01 ∷ 0x47 ∷ 0x09 ∷ 0x34 ∷ 0x12 ∷ 0x01 ∷ 0x02 ∷ 0x03 ∷ 0x81 ∷ [];
}

abbrev pub octet_examples : List Worked
octet_examples = points ∷ measured ∷ tagged_point ∷ confirmation ∷ []

-- ---- Refusals (this gateway's own numbers)

pub record Refused : Type 0 where
  pub sizes : Sizes
  pub octets : List ℕ
  pub why : Option ℕ

abbrev pub is_refused : Option ℕ → Sizes → List ℕ → Refused
is_refused why sizes octets = record { sizes = sizes; octets = octets; why = why }

abbrev pub IsRefusedSo : Refused → Type 0
IsRefusedSo e = refusal e.sizes e.octets ≡ e.why

abbrev pub refusal_examples : List Refused
refusal_examples =
    -- too short for a header and an address, whatever the type
    is_refused (Some 1) small (0x02 ∷ 0x00 ∷ 0x03 ∷ 0x01 ∷ [])
    ∷ is_refused (Some 1) tcp (0x01 ∷ 0x01 ∷ 3 ∷ 0 ∷ 1 ∷ 0 ∷ 1 ∷ 0 ∷ [])
    -- an unknown type, also with number 0; types 63 and 64 aren't carried
    ∷ is_refused (Some 2) small (0x02 ∷ 0x00 ∷ 0x03 ∷ 0x01 ∷ 0x64 ∷ [])
    ∷ is_refused (Some 2) small (0x3F ∷ 0x01 ∷ 6 ∷ 1 ∷ 10 ∷ 0x81 ∷ thursday)
    -- number 0, with SQ 0 and 1, also if the length is wrong
    ∷ is_refused (Some 3) small (0x01 ∷ 0x00 ∷ 0x03 ∷ 0x01 ∷ 0x64 ∷ [])
    ∷ is_refused (Some 3) small (0x01 ∷ 0x80 ∷ 0x03 ∷ 0x01 ∷ 0x64 ∷ 0x01 ∷ [])
    -- an octet too few or too many, also if the last address is past the size
    ∷ is_refused (Some 4) small (0x01 ∷ 0x01 ∷ 0x03 ∷ 0x01 ∷ 0x64 ∷ [])
    ∷ is_refused (Some 4) small (0x01 ∷ 0x01 ∷ 0x03 ∷ 0x01 ∷ 0x64 ∷ 0x01 ∷ 0x00 ∷ [])
    ∷ is_refused (Some 4) small (0x01 ∷ 0x82 ∷ 0x03 ∷ 0x01 ∷ 0xFF ∷ 0x01 ∷ [])
    -- the last address past the size, and the greatest that isn't
    ∷ is_refused (Some 5) small (0x01 ∷ 0x82 ∷ 0x03 ∷ 0x01 ∷ 0xFF ∷ 0x01 ∷ 0x00 ∷ [])
    ∷ is_refused (Some 5) tcp (0x01 ∷ 0x82 ∷ 3 ∷ 0 ∷ 1 ∷ 0 ∷ 0xFF ∷ 0xFF ∷ 0xFF ∷ 1 ∷ 1 ∷ [])
    ∷ is_refused None small (0x01 ∷ 0x82 ∷ 0x03 ∷ 0x01 ∷ 0xFE ∷ 0x01 ∷ 0x00 ∷ [])
    ∷ []

-- ---- Reports

-- Monitor types are passed on, with any cause octet but 6C and EC, a negative 'unknown type' (this
-- gateway's own profile).
pub record PassedExamples : Type 0 where
  pub spontaneous : is_passed_on MSpNa1 0x03 ≡ true
  pub initialised : is_passed_on MEiNa1 0x04 ≡ true
  pub positive : is_passed_on MSpNa1 0x2C ≡ true
  pub unknown_cause : is_passed_on MSpNa1 0x6D ≡ true
  pub unknown_type : is_passed_on MSpNa1 0x6C ≡ false
  pub tested_unknown_type : is_passed_on MSpNa1 0xEC ≡ false
  pub command : is_passed_on CScNa1 0x07 ≡ false
  pub interrogation : is_passed_on CIcNa1 0x0A ≡ false

-- 49 totals from address 10 on with SQ 1 are two pieces, 124 single points with SQ 0 three, and one
-- is one
pub record PartExamples : Type 0 where
  pub totals : parts small (15 ∷ 0xB1 ∷ 3 ∷ 1 ∷ 10 ∷ replicate 245 0xFF) ≡ 2
  pub points : parts small (1 ∷ 124 ∷ 3 ∷ 1 ∷ replicate 248 0x01) ≡ 3
  pub one : parts small (1 ∷ 1 ∷ 3 ∷ 1 ∷ 100 ∷ 1 ∷ []) ≡ 1

-- types 45 to 49 have their tagged form 13 above, 58 to 62; no other type has one
pub record TagsByType : Type 0 where
  pub plain : (t : TypeId) → is_plain_command t ≡ (nat_le 45 (row t).code && nat_le (row t).code 49)
  pub tagged : (t : TypeId) →
      is_tagged_command t ≡ (nat_le 58 (row t).code && nat_le (row t).code 62)
  pub above : (t : TypeId) →
      (row (tagged_type t)).code ≡ (row t).code + (if is_plain_command t then 13 else 0)
  pub below : (t : TypeId) →
      (row (untagged_type t)).code + (if is_tagged_command t then 13 else 0) ≡ (row t).code
