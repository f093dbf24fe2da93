-- ASDUs of the control direction (IEC 60870-5-101, 7.1 and 7.2) in the sizes of IEC 60870-5-104, 7:
-- two octets of cause, two of common address, three of object address.
use Rattle.std.specs.Prelude.{ℕ, ◌+◌, ◌/◌, ◌%◌, Bool, if◌then◌else◌, List, [], ◌∷◌, ◌++◌}
use Rattle.std.specs.Prelude.{Option, Some, None}
use Rattle.centre.specs.declared.request.Request.{Request}
use Rattle.centre.specs.declared.request.Value.{Value}
use Rattle.centre.specs.declared.request.Value.TheVariants.{Single, Double, Step, Normalised}
use Rattle.centre.specs.declared.request.Value.TheVariants.{Scaled, Float}

-- type, one object, cause, originator 0, common address and object address, the low octet first,
-- and the object
abbrev pub request_octets : Request → List ℕ
request_octets r =
    r.kind ∷ 1 ∷ r.cause ∷ 0 ∷ r.ca % 256 ∷ r.ca / 256
    ∷ r.ioa % 256 ∷ r.ioa / 256 % 256 ∷ r.ioa / 65536 % 256 ∷ r.content.items

-- the type of a command without a time tag (7.2.1.1)
abbrev pub command_type : Value → ℕ
command_type (Single on) = 45
command_type (Double on) = 46
command_type (Step up) = 47
command_type (Normalised bits) = 48
command_type (Scaled bits) = 49
command_type (Float bits) = 50

-- S/E, bit 7 of the qualifier, which is its last octet
abbrev pub select_bit : Bool → ℕ
select_bit selects = if selects then 128 else 0

-- the element: SCO, DCO and RCO (7.2.6.15 to 17), or a value and QOS (7.2.6.39)
abbrev pub element_of : (selects : Bool) → Value → List ℕ
element_of selects (Single on) = ((if on then 1 else 0) + select_bit selects) ∷ []
element_of selects (Double on) = ((if on then 2 else 1) + select_bit selects) ∷ []
element_of selects (Step up) = ((if up then 2 else 1) + select_bit selects) ∷ []
element_of selects (Normalised bits) = bits % 256 ∷ bits / 256 ∷ select_bit selects ∷ []
element_of selects (Scaled bits) = bits % 256 ∷ bits / 256 ∷ select_bit selects ∷ []
element_of selects (Float bits) =
    bits % 256 ∷ bits / 256 % 256 ∷ bits / 65536 % 256 ∷ bits / 16777216 ∷ select_bit selects ∷ []

-- the element, with a time tag behind it or without
abbrev pub content_of : (selects : Bool) → Value → Option (List ℕ) → List ℕ
content_of selects value None = element_of selects value
content_of selects value (Some tag) = element_of selects value ++ tag
