-- APDUs as octets (IEC 60870-5-104, 5: the start octet, the length and the four control octets of
-- each format).
use Rattle.std.specs.Prelude.{◌≡◌, ℕ, ◌*◌, ◌/◌, ◌%◌, ◌^◌, ◌<◌, ◌≤◌, List, [], ◌∷◌, ◌++◌, length}
use Rattle.std.specs.Prelude.{All}
use Rattle.apci.specs.declared.apdu.Uf.{Uf}
use Rattle.apci.specs.declared.apdu.Uf.TheVariants.{StartAct, StartCon, StopAct, StopCon, TestAct}
use Rattle.apci.specs.declared.apdu.Uf.TheVariants.{TestCon}
use Rattle.apci.specs.declared.apdu.Apdu.{Apdu}
use Rattle.apci.specs.declared.apdu.Apdu.TheVariants.{I, S, U}

-- N(S) or N(R), a number of 15 bits in two octets; bit 0 of the first is clear
abbrev pub counter : ℕ → List ℕ
counter n = n % 128 * 2 ∷ n / 128 ∷ []

-- the first control octet of a U format (5.2 and 5.3)
abbrev pub function : Uf → ℕ
function StartAct = 0x07
function StartCon = 0x0B
function StopAct = 0x13
function StopCon = 0x23
function TestAct = 0x43
function TestCon = 0x83

-- the four control octets, and of an I format the ASDU
abbrev pub contents : Apdu → List ℕ
contents (I ns nr asdu) = counter ns ++ counter nr ++ asdu.items
contents (S nr) = 0x01 ∷ 0x00 ∷ counter nr
contents (U f) = function f ∷ 0x00 ∷ 0x00 ∷ 0x00 ∷ []

-- the one spelling of an APDU: start octet, length of what follows it, contents
abbrev pub spelling : Apdu → List ℕ
spelling a = 0x68 ∷ length (contents a) ∷ contents a

abbrev pub IsOctet : ℕ → Type 0
IsOctet n = n < 256

-- the APDUs that have a spelling: the length goes up to 253, and an ASDU has at least 9 octets
abbrev pub Fits : Apdu → Type 0
Fits (I ns nr asdu) =
    (ns < 2 ^ 15) × (nr < 2 ^ 15) × All IsOctet asdu.items × (9 ≤ length asdu.items)
    × (length asdu.items ≤ 249)
Fits (S nr) = nr < 2 ^ 15
Fits (U f) = Unit {0}

-- the APDU and its octets are related
pub record IsApdu (a : Apdu) (octets : List ℕ) : Type 0 where
  pub fits : Fits a
  pub spelled : octets ≡ spelling a
