-- What stands at the front of octets: a frame, the beginning of one, or neither.
-- The frames are those of IEC 60870-5-1 (6.2.4.2); which refusal is given, and for which place, is
-- this gateway's own profile.
use Rattle.std.specs.Prelude.{◌≡◌, ℕ, ◌+◌, ◌<◌, ◌≤◌, ◌==◌, if◌then◌else◌, List, ◌∷◌, ◌++◌, length}
use Rattle.std.specs.Prelude.{take, slice_index}
use Rattle.ft12.specs.declared.frame.LinkSize.{LinkSize}
use Rattle.ft12.specs.declared.frame.Frame.{Frame}
use Rattle.ft12.specs.declared.frame.Why.{Why}
use Rattle.ft12.specs.declared.frame.Why.TheVariants.{Start, LengthsDiffer, SecondStart}
use Rattle.ft12.specs.declared.frame.Why.TheVariants.{LengthSmall, Sum, End}
use Rattle.ft12.specs.declared.frame.Front.{Front}
use Rattle.ft12.specs.declared.frame.Front.TheVariants.{Whole, More, Never}
use Rattle.ft12.specs.Spelling.{address_len, IsLineFrame}

-- some frame is these octets and at least one more
pub record IsProperBeginning (size : LinkSize) (octets : List ℕ) : Type 0 where
  pub frame : Frame
  pub next : ℕ
  pub rest : List ℕ
  pub line : IsLineFrame size frame (octets ++ next ∷ rest)

-- some frame begins with these octets
pub record IsBeginning (size : LinkSize) (octets : List ℕ) : Type 0 where
  pub frame : Frame
  pub rest : List ℕ
  pub line : IsLineFrame size frame (octets ++ rest)

-- where the sum of a fixed or a variable frame with this front stands
abbrev pub sum_place : LinkSize → List ℕ → ℕ
sum_place size octets =
    if slice_index octets 0 == 0x10 then 2 + address_len size else 4 + slice_index octets 1

-- what a refusal at this place is called: by the octet that is due there
abbrev pub refusal : LinkSize → List ℕ → ℕ → Why
refusal size octets place =
    if place == 0 then Start else
    if place == sum_place size octets then Sum else
    if place == sum_place size octets + 1 then End else
    if place == 1 then LengthSmall else
    if place == 2 then LengthsDiffer else SecondStart

-- up to this place, and not before, the octets begin no frame
pub record IsRefusedAt (size : LinkSize) (octets : List ℕ) (place : ℕ) : Type 0 where
  pub within : place < length octets
  pub before : IsProperBeginning size (take place octets)
  pub here : IsBeginning size (take (place + 1) octets) → ⊥

-- What stands at the front: a whole frame of n octets, the proper beginning of one, or the least
-- place at which the octets begin none.
abbrev pub IsFront : LinkSize → List ℕ → Front → Type 0
IsFront size octets (Whole frame n) = IsLineFrame size frame (take n octets) × (n ≤ length octets)
IsFront size octets More = IsProperBeginning size octets
IsFront size octets (Never place why) =
    IsRefusedAt size octets place × (why ≡ refusal size octets place)
