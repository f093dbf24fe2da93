-- Frames worked by hand from IEC 60870-5-1 (6.2.4.2) and IEC 60870-5-2: what their octets are, what
-- stands at the front of octets, and where octets that begin none are refused.
use Rattle.std.specs.Prelude.{◌≡◌, ℕ, List, [], ◌∷◌, ◌++◌, take, length}
use Rattle.ft12.specs.declared.frame.LinkSize.{LinkSize}
use Rattle.ft12.specs.declared.frame.LinkSize.TheVariants.{One, Two}
use Rattle.ft12.specs.declared.frame.Frame.{Frame}
use Rattle.ft12.specs.declared.frame.Frame.TheVariants.{Single, Fixed, Data}
use Rattle.ft12.specs.declared.frame.Why.{Why}
use Rattle.ft12.specs.declared.frame.Why.TheVariants.{Start, LengthsDiffer, SecondStart}
use Rattle.ft12.specs.declared.frame.Why.TheVariants.{LengthSmall, Sum, End}
use Rattle.ft12.specs.declared.frame.Front.TheVariants.{Whole, More, Never}
use Rattle.ft12.specs.Spelling.{spelling}
use Rattle.ft12.specs.Fronts.{front_of}

-- ---- Spellings

pub record Spelled : Type 0 where
  pub size : LinkSize
  pub frame : Frame
  pub octets : List ℕ

abbrev pub is_spelled_so : LinkSize → Frame → List ℕ → Spelled
is_spelled_so size frame octets = record { size = size; frame = frame; octets = octets }

abbrev pub with_data : (c a : ℕ) → List ℕ → Frame
with_data c a body = Data c a (record { items = body })

-- a frame, its octets and what is read of them
abbrev pub IsSpelledSo : Spelled → Type 0
IsSpelledSo e =
    (spelling e.size e.frame ≡ e.octets)
    × (front_of e.size (e.octets ++ 0x68 ∷ []) ≡ Whole e.frame (length e.octets))

abbrev pub spelling_examples : List Spelled
spelling_examples =
    -- a short confirmation
    is_spelled_so One Single (0xE5 ∷ [])
    -- class 2 is asked of station 1: primary, FCB 1, FCV 1, function 11
    ∷ is_spelled_so One (Fixed 0x7B 1) (0x10 ∷ 0x7B ∷ 0x01 ∷ 0x7C ∷ 0x16 ∷ [])
    -- the status is asked of station 258: two address octets, the low one first
    ∷ is_spelled_so Two (Fixed 0x49 258) (0x10 ∷ 0x49 ∷ 0x02 ∷ 0x01 ∷ 0x4C ∷ 0x16 ∷ [])
    -- a sum past 255 counts modulo 256
    ∷ is_spelled_so One (Fixed 0xFF 0xFF) (0x10 ∷ 0xFF ∷ 0xFF ∷ 0xFE ∷ 0x16 ∷ [])
    -- no data: the length counts the control octet and the address
    ∷ is_spelled_so One (with_data 8 1 [])
    (0x68 ∷ 0x02 ∷ 0x02 ∷ 0x68 ∷ 0x08 ∷ 0x01 ∷ 0x09 ∷ 0x16 ∷ [])
    ∷ is_spelled_so Two (with_data 8 258 (0xFF ∷ []))
    (0x68 ∷ 0x04 ∷ 0x04 ∷ 0x68 ∷ 0x08 ∷ 0x02 ∷ 0x01 ∷ 0xFF ∷ 0x0A ∷ 0x16 ∷ [])
    -- data that are also start and end octets
    ∷ is_spelled_so One (with_data 0x68 0x68 (0x16 ∷ 0xE5 ∷ 0x10 ∷ 0x16 ∷ []))
    (0x68 ∷ 0x06 ∷ 0x06 ∷ 0x68 ∷ 0x68 ∷ 0x68 ∷ 0x16 ∷ 0xE5 ∷ 0x10 ∷ 0x16 ∷ 0xF1 ∷ 0x16 ∷ [])
    -- a single point, object 100, reported by station 1
    ∷ is_spelled_so One (with_data 8 1 (0x01 ∷ 0x01 ∷ 0x03 ∷ 0x01 ∷ 0x64 ∷ 0x00 ∷ 0x01 ∷ []))
    (0x68 ∷ 0x09 ∷ 0x09 ∷ 0x68 ∷ 0x08 ∷ 0x01 ∷ 0x01 ∷ 0x01 ∷ 0x03 ∷ 0x01 ∷ 0x64 ∷ 0x00 ∷ 0x01 ∷ 0x74
    ∷ 0x16 ∷ [])
    ∷ []

-- ---- Refusals

pub record Spoilt : Type 0 where
  pub size : LinkSize
  pub octets : List ℕ
  pub place : ℕ
  pub why : Why

abbrev pub is_refused_at : ℕ → Why → LinkSize → List ℕ → Spoilt
is_refused_at place why size octets =
    record { size = size; octets = octets; place = place; why = why }

-- The octets are refused at that place, for that; those before it still begin a frame.
abbrev pub IsRefusedSo : Spoilt → Type 0
IsRefusedSo e =
    (front_of e.size e.octets ≡ Never e.place e.why)
    × (front_of e.size (take e.place e.octets) ≡ More)

abbrev pub refusal_examples : List Spoilt
refusal_examples =
    is_refused_at 0 Start One (0x16 ∷ [])
    ∷ is_refused_at 0 Start Two (0x00 ∷ 0xE5 ∷ [])
    -- no room for the control octet and the address
    ∷ is_refused_at 1 LengthSmall One (0x68 ∷ 0x01 ∷ 0x02 ∷ [])
    ∷ is_refused_at 1 LengthSmall Two (0x68 ∷ 0x02 ∷ [])
    ∷ is_refused_at 2 LengthsDiffer One (0x68 ∷ 0x02 ∷ 0x03 ∷ 0x16 ∷ [])
    ∷ is_refused_at 3 SecondStart Two (0x68 ∷ 0x03 ∷ 0x03 ∷ 0x10 ∷ [])
    ∷ is_refused_at 3 Sum One (0x10 ∷ 0x49 ∷ 0x01 ∷ 0x4B ∷ [])
    ∷ is_refused_at 4 Sum Two (0x10 ∷ 0x49 ∷ 0x02 ∷ 0x01 ∷ 0x4B ∷ [])
    ∷ is_refused_at 4 End One (0x10 ∷ 0x49 ∷ 0x01 ∷ 0x4A ∷ 0x17 ∷ [])
    ∷ is_refused_at 7 Sum One (0x68 ∷ 0x03 ∷ 0x03 ∷ 0x68 ∷ 0x08 ∷ 0x01 ∷ 0xFF ∷ 0x09 ∷ [])
    ∷ is_refused_at 8 End Two (0x68 ∷ 0x03 ∷ 0x03 ∷ 0x68 ∷ 0x08 ∷ 0x02 ∷ 0x01 ∷ 0x0B ∷ 0x68 ∷ [])
    ∷ []
