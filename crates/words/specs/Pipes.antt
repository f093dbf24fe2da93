-- Octets that come as lines of text, with a frame or several a line (this gateway's own profile).
use Rattle.std.specs.Prelude.{◌≡◌, ℕ, Bool, nat_lt, List, length, filter, Option, Some, None}
use Rattle.std.specs.Prelude.{Result, Ok, Err}
use Rattle.hex.specs.Hex.{decode_of}
use Rattle.hex.specs.declared.error.FromHexError.{FromHexError}
use Rattle.ft12.specs.declared.frame.LinkSize.{LinkSize}
use Rattle.ft12.specs.declared.frame.Front.{Front as LineFront}
use Rattle.ft12.specs.declared.frame.Front.TheVariants as line
use Rattle.ft12.specs.Reading.{IsFront as IsLineFront}
use Rattle.apci.specs.declared.apdu.Front.{Front as ApduFront}
use Rattle.apci.specs.declared.apdu.Front.TheVariants as tcp
use Rattle.apci.specs.Reading.{IsFront as IsApduFront}

-- no space, tab or other blank: those are at most 32
abbrev pub is_mark : ℕ → Bool
is_mark c = nat_lt 32 c

abbrev pub ok_octets : Result (List ℕ) FromHexError → Option (List ℕ)
ok_octets (Ok octets) = Some octets
ok_octets (Err fault) = None

-- the octets that a line spells in hexadecimal, with blanks anywhere
abbrev pub octets_in : List ℕ → Option (List ℕ)
octets_in text = ok_octets (decode_of (filter is_mark text))

-- where the frame at the front of n octets ends; they all go together if no frame is whole
abbrev pub line_end : ℕ → LineFront → ℕ
line_end n (line.Whole frame len) = len
line_end n line.More = n
line_end n (line.Never place why) = n

abbrev pub apdu_end : ℕ → ApduFront → ℕ
apdu_end n (tcp.Whole apdu len) = len
apdu_end n tcp.More = n
apdu_end n (tcp.Never place why) = n

-- so many octets are the frame at the front, or all, if no frame is whole
pub record IsLineEnd (size : LinkSize) (octets : List ℕ) (end : ℕ) : Type 0 where
  pub front : LineFront
  pub is_front : IsLineFront size octets front
  pub end_is : end ≡ line_end (length octets) front

pub record IsApduEnd (octets : List ℕ) (end : ℕ) : Type 0 where
  pub front : ApduFront
  pub is_front : IsApduFront octets front
  pub end_is : end ≡ apdu_end (length octets) front
