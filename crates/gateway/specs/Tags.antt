-- The time tag of a station's answer to a command: that of the command, if it came with one (IEC
-- 60870-5-104, 8: types 58 to 62).
use Rattle.std.specs.Prelude.{◌≡◌, Bool, true, false, ◌&&◌, ◌==◌, ℕ, List, [], ◌∷◌, length, Option}
use Rattle.std.specs.Prelude.{Some}
use Rattle.elements.specs.declared.tag.Cp56.{Cp56}
use Rattle.asdu.specs.Sizes.{tcp}
use Rattle.asdu.specs.Asdu.{AsduValue, IsAsdu}
use Rattle.asdu.specs.Tagging.{is_plain_command, tagged}

-- a command of types 45 to 49 with one object
abbrev pub bears_tag : AsduValue → Bool
bears_tag u = is_plain_command u.kind && length u.infos == 1

abbrev pub IsTaggedAs : Bool → Cp56 → AsduValue → (plain piece : List ℕ) → Type 0
IsTaggedAs true tag u plain piece = IsAsdu tcp (tagged tag.0 u) piece
IsTaggedAs false tag u plain piece = piece ≡ plain

-- the same ASDU with the tag, if it can bear one
abbrev pub IsTagged : Cp56 → (plain piece : List ℕ) → Type 0
IsTagged tag plain piece = (u : AsduValue) × IsAsdu tcp u plain
    × IsTaggedAs (bears_tag u) tag u plain piece

-- One piece bears the tag. (Only an answer of one object has one.)
abbrev pub AreTagged : Option Cp56 → (plain pieces : List (List ℕ)) → Type 0
AreTagged (Some tag) (x ∷ []) pieces = (y : List ℕ) × (pieces ≡ y ∷ []) × IsTagged tag x y
AreTagged tag plain pieces = pieces ≡ plain
