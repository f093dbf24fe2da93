-- A report of the line as a connection to a control centre carries it (IEC 60870-5-104, 5.1).
use Rattle.std.specs.Prelude.{◌≡◌, ℕ, ◌+◌, ◌%◌, ◌^◌, List, [], ◌∷◌, map, true, ⊤}
use Rattle.std.specs.List.{flat_map}
use Rattle.apci.specs.declared.apdu.Apdu.{Apdu}
use Rattle.apci.specs.declared.apdu.Apdu.TheVariants.{I, S, U}
use Rattle.apci.specs.Spelling.{spelling}
use Rattle.asdu.specs.Sizes.{tcp}
use Rattle.asdu.specs.Refusals.{is_read}
use Rattle.asdu.specs.InformationObjects.{InformationObject, objects_of}

-- the information objects in an APDU
abbrev pub objects_in : Apdu → List InformationObject
objects_in (I ns nr asdu) = objects_of tcp asdu.items
objects_in (S nr) = []
objects_in (U f) = []

-- an I format with an ASDU and this send sequence number, which acknowledges nothing
abbrev pub IsNumbered : ℕ → Apdu → Type 0
IsNumbered n (I ns nr asdu) = (ns ≡ n) × (nr ≡ 0) × (is_read tcp asdu.items ≡ true)
IsNumbered n (S nr) = ⊥
IsNumbered n (U f) = ⊥

-- their numbers count on from n, modulo 32768
abbrev pub AreNumbered : ℕ → List Apdu → Type 0
AreNumbered n [] = ⊤
AreNumbered n (a ∷ rest) = IsNumbered n a × AreNumbered ((n + 1) % 2 ^ 15) rest

-- the octets are APDUs, numbered from n on, that carry what was reported: each information object
-- once, and in order
pub record Carries (n : ℕ) (reported : List InformationObject) (octets : List (List ℕ))
    : Type 0 where
  pub apdus : List Apdu
  pub spelled : octets ≡ map spelling apdus
  pub numbered : AreNumbered n apdus
  pub objects : flat_map objects_in apdus ≡ reported
