-- What is looked at before a state is taken fits the line.
use Rattle.std.proofs.Common.{◌≡◌, ℕ, ◌≤◌, ◌==◌, Bool, true, false, not, List, length, IsTrue, refl}
use Rattle.std.proofs.Common.{arith}
use Rattle.std.specs.List.{All}
use Rattle.ft12.specs.declared.frame.LinkSize.{LinkSize}
use Rattle.ft12.specs.declared.frame.LinkSize.TheVariants.{One, Two}
use Rattle.ft12.specs.Spelling.{IsOctet}
use Rattle.link.specs.Requests.{IsUserData, FitsFrame}

fits_frame : (size : LinkSize) (asdu : List ℕ) → length asdu ≤ 12 → FitsFrame size asdu
fits_frame One asdu short = omega (arith, short)
fits_frame Two asdu short = omega (arith, short)

pub user_data : (size : LinkSize) (asdu : List ℕ) (b : Bool) → b ≡ (length asdu == 0) → length asdu
    ≤ 12
    → All IsOctet asdu → (IsTrue (not b) → IsUserData size asdu)
    × (IsUserData size asdu → IsTrue (not b))
user_data size asdu true e short all = (
  λ h. let no : ⊥ = cc in absurd no,
  λ h. let one : 1 ≤ length asdu = h.some in let off : (length asdu == 0) ≡ false = grind arith in
      let never : true ≡ false = cc in let no : ⊥ = cc in absurd no,
)
user_data size asdu false e short all = (
  λ h. record { some = grind (arith, e); fits = fits_frame size asdu short; octets = all },
  λ h.
      refl,
)

-- a command is short enough for each line
pub any_line : (size other : LinkSize) (asdu : List ℕ) → length asdu ≤ 12 → IsUserData size asdu
    → IsUserData other asdu
any_line size other asdu short h =
    record { some = h.some; fits = fits_frame other asdu short; octets = h.octets }
