-- The information objects of an ASDU, each with what its ASDU says of it (IEC 60870-5-101, 7.2 and
-- 7.3).
use Rattle.std.specs.Prelude.{ℕ, Bool, not, ◌&&◌, ◌==◌, if◌then◌else◌, List, [], map, slice_index}
use Rattle.std.specs.Prelude.{Option, Some, None, false}
use Rattle.elements.specs.declared.types.TypeId.{TypeId}
use Rattle.elements.specs.Types.{row, type_of}
use Rattle.asdu.specs.declared.sizes.Sizes.{Sizes}
use Rattle.asdu.specs.Asdu.{AsduValue, Info}
use Rattle.asdu.specs.Fields.{value_at}
use Rattle.asdu.specs.Refusals.{is_read}

-- type, cause octet, originator (0 if the cause has one octet), common address, object address,
-- element octets, and tag octets or none
pub record InformationObject : Type 0 where
  pub kind : TypeId
  pub cause : ℕ
  pub originator : ℕ
  pub ca : ℕ
  pub address : ℕ
  pub element : List ℕ
  pub tag : Option (List ℕ)

-- an object of this ASDU
abbrev pub object_in : AsduValue → Info → InformationObject
object_in u i = record {
  kind = u.kind;
  cause = u.cause;
  originator = u.originator;
  ca = u.ca;
  address = i.address;
  element = i.element;
  tag = i.tag;
}

abbrev pub value_objects : AsduValue → List InformationObject
value_objects u = map (object_in u) u.infos

abbrev pub typed_objects : Sizes → Option TypeId → List ℕ → List InformationObject
typed_objects s None xs = []
typed_objects s (Some t) xs = value_objects (value_at s t xs)

-- the objects of the ASDU that the octets are, and none if they are none
unfoldable pub objects_of : Sizes → List ℕ → List InformationObject
objects_of s xs = if is_read s xs then typed_objects s (type_of (slice_index xs 0)) xs else []

-- Whether reports of this type and cause octet are passed on to the control centre: those of
-- monitor types, save with 'unknown type' and P/N set, with the test bit or without (6C, EC). This
-- gateway's own profile: no monitor type goes down to a station, so no station has a reason to send
-- them.
abbrev pub is_passed_on : TypeId → ℕ → Bool
is_passed_on t cause = (row t).monitor && not (cause == 108) && not (cause == 236)

abbrev pub is_typed_passed_on : Option TypeId → ℕ → Bool
is_typed_passed_on None cause = false
is_typed_passed_on (Some t) cause = is_passed_on t cause

abbrev pub only_if : Bool → List InformationObject → List InformationObject
only_if passed objects = if passed then objects else []

-- the objects of the octets, if they are passed on
unfoldable pub monitor_objects_of : Sizes → List ℕ → List InformationObject
monitor_objects_of s xs =
    only_if (is_typed_passed_on (type_of (slice_index xs 0)) (slice_index xs 2)) (objects_of s xs)
