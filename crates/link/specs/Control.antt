-- The control octet of a frame of the line (IEC 60870-5-2:1992, 5.1.2; IEC 60870-5-101, 6.1.2): its
-- bits and functions by their names. Each name stands beside octets in `controls_by_example`.
use Rattle.std.specs.Prelude.{◌≡◌, ℕ, ◌+◌, ◌/◌, ◌%◌, ◌==◌, ◌&&◌, Bool, true, false, not}
use Rattle.std.specs.Prelude.{if◌then◌else◌}
pub use Rattle.link.specs.declared.control.PrimaryFunction.{PrimaryFunction}
use Rattle.link.specs.declared.control.PrimaryFunction.TheVariants as primary
pub use Rattle.link.specs.declared.control.SecondaryFunction.{SecondaryFunction}
use Rattle.link.specs.declared.control.SecondaryFunction.TheVariants as secondary
pub use Rattle.link.specs.declared.control.Control.{Control}
use Rattle.link.specs.declared.control.Control.TheVariants as control

-- PRM, bit 6: the frame comes from the primary station, or else from a secondary one.
abbrev pub is_primary : (octet : ℕ) → Bool
is_primary octet = octet / 64 % 2 == 1

abbrev pub is_secondary : (octet : ℕ) → Bool
is_secondary octet = not (is_primary octet)

-- the frame count bit of a primary station, and whether that is valid (bits 5 and 4)
abbrev pub fcb_bit : (octet : ℕ) → Bool
fcb_bit octet = octet / 32 % 2 == 1

abbrev pub fcv_bit : (octet : ℕ) → Bool
fcv_bit octet = octet / 16 % 2 == 1

-- access demand, and data flow control, of a secondary station (bits 5 and 4)
abbrev pub acd_bit : (octet : ℕ) → Bool
acd_bit octet = octet / 32 % 2 == 1

abbrev pub dfc_bit : (octet : ℕ) → Bool
dfc_bit octet = octet / 16 % 2 == 1

-- bit 7, which unbalanced transmission reserves
abbrev pub reserved_bit : (octet : ℕ) → Bool
reserved_bit octet = octet / 128 % 2 == 1

-- the number of the function (bits 3 to 0)
abbrev pub function_code : (octet : ℕ) → ℕ
function_code octet = octet % 16

-- the functions of a primary station
abbrev pub primary_code : PrimaryFunction → ℕ
primary_code primary.ResetLink = 0
primary_code primary.ResetProcess = 1
primary_code primary.Reserved2 = 2
primary_code primary.UserData = 3
primary_code primary.UserDataUnconfirmed = 4
primary_code primary.Reserved5 = 5
primary_code primary.Special6 = 6
primary_code primary.Special7 = 7
primary_code primary.AccessDemand = 8
primary_code primary.LinkStatus = 9
primary_code primary.Class1 = 10
primary_code primary.Class2 = 11
primary_code primary.Reserved12 = 12
primary_code primary.Reserved13 = 13
primary_code primary.Special14 = 14
primary_code primary.Special15 = 15

-- and of a secondary station
abbrev pub secondary_code : SecondaryFunction → ℕ
secondary_code secondary.Confirm = 0
secondary_code secondary.Busy = 1
secondary_code secondary.Reserved2 = 2
secondary_code secondary.Reserved3 = 3
secondary_code secondary.Reserved4 = 4
secondary_code secondary.Reserved5 = 5
secondary_code secondary.Special6 = 6
secondary_code secondary.Special7 = 7
secondary_code secondary.UserData = 8
secondary_code secondary.NoData = 9
secondary_code secondary.Reserved10 = 10
secondary_code secondary.LinkStatus = 11
secondary_code secondary.Reserved12 = 12
secondary_code secondary.Special13 = 13
secondary_code secondary.NotFunctioning = 14
secondary_code secondary.NotImplemented = 15

-- The octet has the value's fields.
abbrev pub HasFields : Control → (octet : ℕ) → Type 0
HasFields (control.Primary reserved fcb fcv function) octet =
    (reserved_bit octet ≡ reserved) × (is_primary octet ≡ true) × (fcb_bit octet ≡ fcb)
    × (fcv_bit octet ≡ fcv) × (function_code octet ≡ primary_code function)
HasFields (control.Secondary reserved acd dfc function) octet =
    (reserved_bit octet ≡ reserved) × (is_primary octet ≡ false) × (acd_bit octet ≡ acd)
    × (dfc_bit octet ≡ dfc) × (function_code octet ≡ secondary_code function)

-- what a bit counts if it is set
abbrev pub weight : (place : ℕ) → Bool → ℕ
weight place bit = if bit then place else 0

-- a primary station's octet with the reserved bit clear
abbrev pub primary_octet : (fcb fcv : Bool) → (code : ℕ) → ℕ
primary_octet fcb fcv code = 64 + weight 32 fcb + weight 16 fcv + code

-- and a secondary station's
abbrev pub secondary_octet : (acd dfc : Bool) → (code : ℕ) → ℕ
secondary_octet acd dfc code = weight 32 acd + weight 16 dfc + code

-- the octet of a value
abbrev pub octet_of : Control → ℕ
octet_of (control.Primary reserved fcb fcv function) =
    primary_octet fcb fcv (primary_code function) + weight 128 reserved
octet_of (control.Secondary reserved acd dfc function) =
    secondary_octet acd dfc (secondary_code function) + weight 128 reserved

-- ACD and DFC of a secondary station's octet; a primary station's has neither.
abbrev pub shows_acd : (octet : ℕ) → Bool
shows_acd octet = is_secondary octet && acd_bit octet

abbrev pub shows_dfc : (octet : ℕ) → Bool
shows_dfc octet = is_secondary octet && dfc_bit octet
