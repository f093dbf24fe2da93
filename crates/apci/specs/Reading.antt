-- What stands at the front of octets: an APDU (IEC 60870-5-104, 5), the beginning of one, or
-- neither. Which refusal is given for which place is this gateway's own profile.
use Rattle.std.specs.Prelude.{◌≡◌, ℕ, ◌+◌, ◌%◌, ◌<◌, ◌≤◌, ◌==◌, ◌⊎◌, if◌then◌else◌, List, [], ◌∷◌}
use Rattle.std.specs.Prelude.{◌++◌, length, take, slice_index, is_some, Option, Some, None}
use Rattle.apci.specs.declared.apdu.Uf.{Uf}
use Rattle.apci.specs.declared.apdu.Uf.TheVariants.{StartAct, StartCon, StopAct, StopCon, TestAct}
use Rattle.apci.specs.declared.apdu.Uf.TheVariants.{TestCon}
use Rattle.apci.specs.declared.apdu.Apdu.{Apdu}
use Rattle.apci.specs.declared.apdu.Why.{Why}
use Rattle.apci.specs.declared.apdu.Why.TheVariants.{Start, Length, Control, NotFour, Short}
use Rattle.apci.specs.declared.apdu.Front.{Front}
use Rattle.apci.specs.declared.apdu.Front.TheVariants.{Whole, More, Never}
use Rattle.apci.specs.Spelling.{IsApdu}

-- some APDU is these octets and at least one more
pub record IsProperBeginning (octets : List ℕ) : Type 0 where
  pub apdu : Apdu
  pub next : ℕ
  pub rest : List ℕ
  pub line : IsApdu apdu (octets ++ next ∷ rest)

-- some APDU begins with these octets
pub record IsBeginning (octets : List ℕ) : Type 0 where
  pub apdu : Apdu
  pub rest : List ℕ
  pub line : IsApdu apdu (octets ++ rest)

-- No APDU has a length from 5 to 12. It is judged when the control octet after it has come.
pub record IsUnusedLength (octets : List ℕ) : Type 0 where
  pub len : ℕ
  pub low : 5 ≤ len
  pub high : len ≤ 12
  pub whole : octets ≡ 0x68 ∷ len ∷ []

-- more octets may come
abbrev pub IsMore : List ℕ → Type 0
IsMore octets = IsProperBeginning octets ⊎ IsUnusedLength octets

-- nothing is decided against the octets
abbrev pub IsOpen : List ℕ → Type 0
IsOpen octets = IsBeginning octets ⊎ IsUnusedLength octets

-- the control octets of U formats
abbrev pub function_of : ℕ → Option Uf
function_of o =
    if o == 0x07 then Some StartAct else if o == 0x0B then Some StartCon else
    if o == 0x13 then Some StopAct else if o == 0x23 then Some StopCon else
    if o == 0x43 then Some TestAct else if o == 0x83 then Some TestCon else None

-- The place and the refusal that are given if the octet at a place decides. The control octet
-- decides on the length too: an S or U format has 4, an I format at least 13.
abbrev pub refusal : List ℕ → ℕ → ℕ × Why
refusal octets place =
    if place == 0 then (0, Start) else
    if place == 1 then (1, Length) else
    if place == 2 then (
    if slice_index octets 2 % 2 == 0 then (1, Short) else
    if slice_index octets 2 == 0x01 then (1, NotFour) else
    if is_some (function_of (slice_index octets 2)) then (1, NotFour) else (2, Control))
    else (place, Control)

-- the octet at a place decides against the octets, and none before it does
pub record IsDecidedAt (octets : List ℕ) (place : ℕ) : Type 0 where
  pub within : place < length octets
  pub before : IsMore (take place octets)
  pub here : IsOpen (take (place + 1) octets) → ⊥

-- what stands at the front
abbrev pub IsFront : List ℕ → Front → Type 0
IsFront octets (Whole apdu n) = IsApdu apdu (take n octets) × (n ≤ length octets)
IsFront octets More = IsMore octets
IsFront octets (Never place why) =
    (decides : ℕ) × IsDecidedAt octets decides × ((place, why) ≡ refusal octets decides)
