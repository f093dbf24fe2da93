-- APDUs out of pieces of a stream of octets (this gateway's own profile: TCP cuts octets anywhere).
use Rattle.std.specs.Prelude.{◌≡◌, ℕ, ◌+◌, ◌-◌, ◌^◌, min, List, [], ◌∷◌, ◌++◌, length, All, Option}
use Rattle.std.specs.Prelude.{Some, None}
use Rattle.apci.specs.declared.apdu.Apdu.{Apdu}
use Rattle.apci.specs.declared.apdu.Front.TheVariants as front
use Rattle.apci.specs.declared.assembling.Received.{Received}
use Rattle.apci.specs.declared.assembling.Received.TheVariants as arrived
use Rattle.apci.specs.Reading.{IsFront, IsMore, IsDecidedAt}
use Rattle.apci.specs.Spelling.{spelling, IsOctet}

-- What contracts see of an assembler: the octets since the last APDU (none if it is deaf), the APDU
-- that is whole and isn't taken yet, and how many octets it has looked at.
pub record Assembly : Type 0 where
  pub so_far : Option (List ℕ)
  pub whole : Option Apdu
  pub looked : ℕ

-- What is received in a piece after the octets so far is what stands at the front of both joined. n
-- octets of the piece are taken.
abbrev pub Receives : List ℕ → List ℕ → ℕ → Received → Assembly → Type 0
Receives so_far piece n arrived.Whole after =
    (a : Apdu) × IsFront (so_far ++ piece) (front.Whole a (length so_far + n))
    × (after.so_far ≡ Some []) × (after.whole ≡ Some a)
Receives so_far piece n arrived.More after =
    IsFront (so_far ++ piece) front.More × (n ≡ length piece)
    × (after.so_far ≡ Some (so_far ++ piece)) × (after.whole ≡ None)
Receives so_far piece n (arrived.Never place why) after =
    IsFront (so_far ++ piece) (front.Never place why) × (n ≡ length piece)
    × (after.so_far ≡ None) × (after.whole ≡ None)
Receives so_far piece n arrived.Deaf after = ⊥

-- How often octets were looked at, if n octets of the piece were taken: each once. If they begin no
-- APDU, the last one looked at is the one that decides it; those behind it aren't looked at. The
-- count saturates.
abbrev pub HasLooked : List ℕ → List ℕ → ℕ → ℕ → Received → ℕ → Type 0
HasLooked so_far piece before n arrived.Whole after = after ≡ min (2 ^ 64 - 1) (before + n)
HasLooked so_far piece before n arrived.More after = after ≡ min (2 ^ 64 - 1) (before + n)
HasLooked so_far piece before n (arrived.Never place why) after =
    (decides : ℕ) × IsDecidedAt (so_far ++ piece) decides
    × (after ≡ min (2 ^ 64 - 1) (before + (decides + 1 - length so_far)))
HasLooked so_far piece before n arrived.Deaf after = ⊥

-- The whole APDU is received, its octets are taken, and the octets behind it begin the next one.
pub record IsReceivedWhole (a : Apdu) (n : ℕ) (h : Received) (after : Assembly) : Type 0 where
  pub received_is : h ≡ arrived.Whole
  pub whole : after.whole ≡ Some a
  pub taken : n ≡ length (spelling a)
  pub listening : after.so_far ≡ Some []

-- The octets since the last APDU as numbers, 1 before them; 0 alone if the assembler is deaf
-- (profile).
abbrev pub so_far_numbers : Option (List ℕ) → List ℕ
so_far_numbers None = 0 ∷ []
so_far_numbers (Some octets) = 1 ∷ octets

-- octets that an assembler can have: an APDU may go on from them
pub record IsResumable (octets : List ℕ) : Type 0 where
  pub more : IsMore octets
  pub octets_fit : All IsOctet octets
