-- What the assembler has kept of the beginning of a frame, as the octets that it stands for.
use Rattle.std.specs.Prelude.{◌≡◌, ℕ, ◌+◌, ◌%◌, ◌<◌, ◌≤◌, List, [], ◌∷◌, ◌++◌, length, sum, All}
use Rattle.std.specs.Prelude.{Bool, true, false}
use Rattle.ft12.specs.declared.frame.LinkSize.{LinkSize}
use Rattle.ft12.specs.declared.frame.LinkSize.TheVariants.{Two}
use Rattle.ft12.specs.declared.frame.Frame.{Frame}
use Rattle.ft12.specs.declared.frame.Frame.TheVariants as frame
use Rattle.ft12.specs.declared.frame.Front.TheVariants as front
use Rattle.ft12.specs.declared.stage.FrameKind.{FrameKind}
use Rattle.ft12.specs.declared.stage.FrameKind.TheVariants.{Fixed, Variable}
use Rattle.ft12.specs.declared.stage.FixedFields.{FixedFields}
use Rattle.ft12.specs.declared.stage.FixedFields.TheVariants as fields
use Rattle.ft12.specs.declared.stage.Summing.{Summing}
use Rattle.ft12.specs.declared.stage.Summed.{Summed}
use Rattle.ft12.specs.declared.stage.DueOctet.{DueOctet}
use Rattle.ft12.specs.declared.stage.DueOctet.TheVariants as stage
use Rattle.ft12.specs.declared.stage.BareFrame.{BareFrame}
use Rattle.ft12.specs.declared.stage.BareFrame.TheVariants as bare
use Rattle.ft12.specs.declared.stage.NextStage.{NextStage}
use Rattle.ft12.specs.declared.stage.NextStage.TheVariants as step
use Rattle.ft12.specs.Spelling.{address_len, user, header, IsOctet, FitsAddress}
use Rattle.ft12.specs.Reading.{IsFront}

-- the octets of the fields and of the data, as far as they came
abbrev pub fields_octets : LinkSize → FixedFields → (kept : List ℕ) → List ℕ
fields_octets size fields.Nothing kept = []
fields_octets size (fields.Control c) kept = c ∷ []
fields_octets size (fields.LowAddress c low) kept = c ∷ low ∷ []
fields_octets size (fields.Address c a) kept = user size c a kept

-- octets that fit, and no data before all fields came
abbrev pub IsFields : LinkSize → FixedFields → List ℕ → Type 0
IsFields size fields.Nothing kept = kept ≡ []
IsFields size (fields.Control c) kept = IsOctet c × (kept ≡ [])
IsFields size (fields.LowAddress c low) kept = (size ≡ Two) × IsOctet c × IsOctet low × (kept ≡ [])
IsFields size (fields.Address c a) kept = FitsAddress size c a × All IsOctet kept

-- the octets before the control octet
abbrev pub head : FrameKind → ℕ → List ℕ
head Fixed len = 0x10 ∷ []
head Variable len = header len

-- a length that leaves room for the control octet and the address
abbrev pub IsLength : LinkSize → ℕ → Type 0
IsLength size len = (1 + address_len size ≤ len) × (len < 256)

-- how many octets from the control octet to the last one of data
abbrev pub IsLen : LinkSize → FrameKind → ℕ → Type 0
IsLen size Fixed len = len ≡ 1 + address_len size
IsLen size Variable len = IsLength size len

-- some of the octets that the sum is made of
pub record IsSumming (size : LinkSize) (s : Summing) (kept : List ℕ) : Type 0 where
  pub len_fits : IsLen size s.kind s.len
  pub fields_fit : IsFields size s.fields kept
  pub short : length (fields_octets size s.fields kept) < s.len
  pub sum_is : s.sum ≡ sum (fields_octets size s.fields kept) % 256

-- one of the octets of data is due, and not the last one
abbrev pub IsDataDue : LinkSize → FixedFields → (len : ℕ) → List ℕ → Type 0
IsDataDue size (fields.Address c a) len kept = 2 + address_len size + length kept < len
IsDataDue size f len kept = ⊥

abbrev pub IsInData : LinkSize → Summing → List ℕ → Type 0
IsInData size s kept = IsDataDue size s.fields s.len kept

-- all of them
pub record IsSummed (size : LinkSize) (s : Summed) (kept : List ℕ) : Type 0 where
  pub len_fits : IsLen size s.kind s.len
  pub fits : FitsAddress size s.c s.a
  pub octets : All IsOctet kept
  pub all : length (user size s.c s.a kept) ≡ s.len
  pub sum_is : s.sum ≡ sum (user size s.c s.a kept) % 256

abbrev pub summed_octets : LinkSize → Summed → List ℕ → List ℕ
summed_octets size s kept = head s.kind s.len ++ user size s.c s.a kept

abbrev pub IsStage : LinkSize → DueOctet → List ℕ → Type 0
IsStage size stage.Start kept = kept ≡ []
IsStage size stage.Length kept = kept ≡ []
IsStage size (stage.LengthAgain len) kept = IsLength size len × (kept ≡ [])
IsStage size (stage.SecondStart len) kept = IsLength size len × (kept ≡ [])
IsStage size (stage.User s) kept = IsSumming size s kept
IsStage size (stage.Sum s) kept = IsSummed size s kept
IsStage size (stage.End s) kept = IsSummed size s kept

-- the octets that came since the last frame
abbrev pub so_far : LinkSize → DueOctet → (kept : List ℕ) → List ℕ
so_far size stage.Start kept = []
so_far size stage.Length kept = 0x68 ∷ []
so_far size (stage.LengthAgain len) kept = 0x68 ∷ len ∷ []
so_far size (stage.SecondStart len) kept = 0x68 ∷ len ∷ len ∷ []
so_far size (stage.User s) kept = head s.kind s.len ++ fields_octets size s.fields kept
so_far size (stage.Sum s) kept = summed_octets size s kept
so_far size (stage.End s) kept = summed_octets size s kept ++ s.sum ∷ []

-- the frame with the data kept
abbrev pub frame_with : BareFrame → List ℕ → Frame
frame_with bare.Single kept = frame.Single
frame_with (bare.Fixed c a) kept = frame.Fixed c a
frame_with (bare.Data c a) kept = frame.Data c a (record { items = kept })

-- no data are kept of a frame that has none
abbrev pub HasData : BareFrame → List ℕ → Type 0
HasData bare.Single kept = kept ≡ []
HasData (bare.Fixed c a) kept = kept ≡ []
HasData (bare.Data c a) kept = Unit {0}

-- what octets are, and what is kept of them
abbrev pub Steps : LinkSize → List ℕ → List ℕ → NextStage → Type 0
Steps size octets kept (step.Whole f) =
    IsFront size octets (front.Whole (frame_with f kept) (length octets)) × HasData f kept
Steps size octets kept (step.More s) = IsStage size s kept × (so_far size s kept ≡ octets)
Steps size octets kept (step.Never place why) = IsFront size octets (front.Never place why)

-- the end octet is due
abbrev pub is_end : DueOctet → Bool
is_end (stage.End s) = true
is_end stage = false
