-- Frames of the line as octets: format class FT1.2 of IEC 60870-5-1 (6.2.4.2), with the link
-- address of IEC 60870-5-2 and IEC 60870-5-101 (7.1).
use Rattle.std.specs.Prelude.{◌≡◌, ℕ, ◌+◌, ◌/◌, ◌%◌, ◌^◌, ◌<◌, List, [], ◌∷◌, ◌++◌, length, sum}
use Rattle.std.specs.Prelude.{All}
use Rattle.ft12.specs.declared.frame.LinkSize.{LinkSize}
use Rattle.ft12.specs.declared.frame.LinkSize.TheVariants.{One, Two}
use Rattle.ft12.specs.declared.frame.Frame.{Frame}
use Rattle.ft12.specs.declared.frame.Frame.TheVariants.{Single, Fixed, Data}

-- how many octets an address has (IEC 60870-5-101, 7.1: a setting)
abbrev pub address_len : LinkSize → ℕ
address_len One = 1
address_len Two = 2

-- an address, low octet first
abbrev pub address : LinkSize → ℕ → List ℕ
address One a = a ∷ []
address Two a = a % 256 ∷ a / 256 ∷ []

-- octets, their sum modulo 256 and the end octet (IEC 60870-5-1, 6.2.4.2)
abbrev pub checked : List ℕ → List ℕ
checked octets = octets ++ sum octets % 256 ∷ 0x16 ∷ []

-- the length, twice, between two start octets (IEC 60870-5-1, 6.2.4.2)
abbrev pub header : ℕ → List ℕ
header len = 0x68 ∷ len ∷ len ∷ 0x68 ∷ []

-- the control octet, the address and the data: what the length counts and the sum is made of
abbrev pub user : LinkSize → ℕ → ℕ → List ℕ → List ℕ
user size c a body = c ∷ address size a ++ body

-- the one spelling of a frame: single character, fixed and variable length (IEC 60870-5-1, 6.2.4.2)
abbrev pub spelling : LinkSize → Frame → List ℕ
spelling size Single = 0xE5 ∷ []
spelling size (Fixed c a) = 0x10 ∷ checked (user size c a [])
spelling size (Data c a body) =
    header (length (user size c a body.items)) ++ checked (user size c a body.items)

-- how many octets it has
abbrev pub spelling_len : LinkSize → Frame → ℕ
spelling_len size Single = 1
spelling_len size (Fixed c a) = 4 + address_len size
spelling_len size (Data c a body) = 7 + address_len size + length body.items

-- a number that one octet holds
abbrev pub IsOctet : ℕ → Type 0
IsOctet n = n < 256

-- the control octet and the address fit their places
pub record FitsAddress (size : LinkSize) (c a : ℕ) : Type 0 where
  pub control : IsOctet c
  pub address : a < 256 ^ address_len size

-- the frames that have a spelling: all that fit, and whose control octet, address and data are at
-- most 255 octets
abbrev pub Fits : LinkSize → Frame → Type 0
Fits size Single = Unit {0}
Fits size (Fixed c a) = FitsAddress size c a
Fits size (Data c a body) =
    FitsAddress size c a × All IsOctet body.items × (length (user size c a body.items) < 256)

-- the frame and its octets are related: the frame has this spelling
pub record IsLineFrame (size : LinkSize) (frame : Frame) (octets : List ℕ) : Type 0 where
  pub fits : Fits size frame
  pub spelled : octets ≡ spelling size frame
