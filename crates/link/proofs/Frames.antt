-- What fits a frame, and what is no frame.
use Rattle.std.proofs.Common.{◌≡◌, ℕ, ◌+◌, ◌<◌, ◌^◌, List, length, All, None, refl, sym, subst}
use Rattle.std.proofs.Common.{arith, inr}
use Rattle.std.proofs.lemmas.List.{take_all}
use Rattle.ft12.specs.declared.frame.LinkSize.{LinkSize}
use Rattle.ft12.specs.declared.frame.LinkSize.TheVariants.{One, Two}
use Rattle.ft12.specs.declared.frame.Frame.{Frame}
use Rattle.ft12.specs.declared.frame.Front.{Front}
use Rattle.ft12.specs.declared.frame.Front.TheVariants.{Whole}
use Rattle.ft12.specs.Spelling.{address_len, user, Fits, IsLineFrame, IsOctet}
use Rattle.ft12.specs.Reading.{IsFront}
use Rattle.link.specs.Requests.{FitsFrame}
use Rattle.link.specs.Secondary.{data_frame, Secondary, ReceivesOctets}

length-user : (size : LinkSize) (c a : ℕ) (body : List ℕ)
    → length (user size c a body) ≡ 1 + address_len size + length body
length-user One c a body = omega arith
length-user Two c a body = omega arith

pub data_fits : (size : LinkSize) (c a : ℕ) (body : List ℕ) → c < 256 → a < 256 ^ address_len size
    → All IsOctet body
    → FitsFrame size body →
    Fits size (data_frame c a body)
data_fits size c a body control address octets short = (
  record { control = control; address = address },
  octets,
  omega
      (arith, length-user size c a body, short),
)

-- the front is each whole frame
pub logged_whole : (size : LinkSize) (octets : List ℕ) (result : Front)
    → ((other : Front) → IsFront size octets other → other ≡ result) →
    (frame : Frame) → IsLineFrame size frame octets → Whole frame (length octets) ≡ result
logged_whole size octets result only frame line = only (Whole frame (length octets)) (
  subst (IsLineFrame size frame) (sym (take_all (length octets) octets (omega arith))) line,
  omega arith,
)

pub not_received : (s : Secondary) (octets : List ℕ) (result : Front)
    → ((other : Front) → IsFront s.size octets other → other ≡ result) →
    ((frame : Frame) → Whole frame (length octets) ≡ result → ⊥) → ReceivesOctets s octets None s
not_received s octets result only no_whole =
    inr (
      (λ frame line. no_whole frame (logged_whole s.size octets result only frame line)),
      refl,
      refl,
    )
