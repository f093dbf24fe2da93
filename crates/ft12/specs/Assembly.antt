-- Frames out of pieces of a stream of octets.
use Rattle.std.specs.Prelude.{◌≡◌, ℕ, ◌+◌, ◌-◌, ◌^◌, ◌<◌, min, List, [], ◌∷◌, take, ◌++◌, length}
use Rattle.std.specs.Prelude.{Option, Some, None}
use Rattle.ft12.specs.declared.frame.LinkSize.{LinkSize}
use Rattle.ft12.specs.declared.frame.Frame.{Frame}
use Rattle.ft12.specs.declared.frame.Front.TheVariants as front
use Rattle.ft12.specs.declared.assembling.Received.{Received}
use Rattle.ft12.specs.declared.assembling.Received.TheVariants as arrived
use Rattle.ft12.specs.declared.frame.Why.{Why}
use Rattle.ft12.specs.Reading.{IsFront}
use Rattle.ft12.specs.Spelling.{spelling}

-- the size of the addresses, the octets since the last frame (none if the assembler is deaf), and
-- how many octets it has looked at
pub record Assembly : Type 0 where
  pub size : LinkSize
  pub so_far : Option (List ℕ)
  pub looked : ℕ

-- What is received in a piece after the octets so far is what stands at the front of both joined. n
-- octets of the piece are taken.
abbrev pub Receives : LinkSize → List ℕ → List ℕ → ℕ → Received → Option (List ℕ) → Type 0
Receives size so_far piece n (arrived.Frame frame) after =
    IsFront size (so_far ++ piece) (front.Whole frame (length so_far + n)) × (after ≡ Some [])
Receives size so_far piece n arrived.More after =
    IsFront size (so_far ++ piece) front.More × (n ≡ length piece)
    × (after ≡ Some (so_far ++ piece))
Receives size so_far piece n (arrived.Never place why) after =
    IsFront size (so_far ++ piece) (front.Never place why) × (n ≡ length piece) × (after ≡ None)
Receives size so_far piece n arrived.Deaf after = ⊥

-- How many of the n octets taken are looked at: all, but none after the one at which the octets
-- since the last frame begin no frame.
abbrev pub looked_at : Option (List ℕ) → ℕ → Received → ℕ
looked_at None n h = 0
looked_at (Some so_far) n (arrived.Never place why) = place + 1 - length so_far
looked_at (Some so_far) n (arrived.Frame frame) = n
looked_at (Some so_far) n arrived.More = n
looked_at (Some so_far) n arrived.Deaf = n

-- with the end octet these are a whole frame
abbrev pub IsEndDue : LinkSize → List ℕ → Type 0
IsEndDue size octets =
    (frame : Frame) × IsFront size (octets ++ 0x16 ∷ []) (front.Whole frame (length octets + 1))

-- What n octets of a piece are, after the octets so far, if no frame ends in them. With the octets
-- so far they are the proper beginning of a frame, whose end octet is due if octets of the piece
-- are left. Or the piece goes on to begin none. Then it is taken as a whole, and none is looked at
-- after the one that shows it. So many were looked at before and after.
abbrev pub ReceivesInner : LinkSize → (so_far piece : List ℕ) → (n before looked : ℕ) →
    Option (List ℕ) → Type 0
ReceivesInner size so_far piece n before looked (Some after) =
    IsFront size after front.More × (after ≡ so_far ++ take n piece)
    × (looked ≡ min (before + n) (2 ^ 64 - 1)) × (n < length piece → IsEndDue size after)
ReceivesInner size so_far piece n before looked None =
    (place : ℕ) × (why : Why) × IsFront size (so_far ++ piece) (front.Never place why)
    × (n ≡ length piece) × (looked ≡ min (before + (place + 1 - length so_far)) (2 ^ 64 - 1))

-- The whole frame is received, its octets are taken, and the octets behind it begin the next one.
pub record IsReceivedWhole (size : LinkSize) (frame : Frame) (n : ℕ) (h : Received)
    (after : Option (List ℕ)) : Type 0 where
  pub frame_is : h ≡ arrived.Frame frame
  pub taken : n ≡ length (spelling size frame)
  pub listening : after ≡ Some []

-- what an assembler has of the next frame, as numbers: 0 if it is deaf (profile)
abbrev pub so_far_numbers : Option (List ℕ) → List ℕ
so_far_numbers None = 0 ∷ []
so_far_numbers (Some octets) = 1 ∷ octets
