-- A frame at the front of octets has some.
use Rattle.std.proofs.Common.{◌≡◌, ℕ, zero, suc, ◌<◌, List, [], arith}
use Rattle.ft12.specs.declared.frame.LinkSize.{LinkSize}
use Rattle.ft12.specs.declared.frame.Frame.{Frame}
use Rattle.ft12.specs.declared.frame.Frame.TheVariants.{Single, Fixed, Data}
use Rattle.ft12.specs.declared.frame.Front.TheVariants as line
use Rattle.ft12.specs.Reading.{IsFront as IsLineFront}
use Rattle.ft12.specs.Spelling.{spelling as line_spelling}
use Rattle.apci.specs.declared.apdu.Apdu.{Apdu}
use Rattle.apci.specs.declared.apdu.Front.TheVariants as tcp
use Rattle.apci.specs.Reading.{IsFront as IsApduFront}

line_nonempty : (size : LinkSize) (frame : Frame) → [] ≡ line_spelling size frame → ⊥
line_nonempty size Single h = cc
line_nonempty size (Fixed c a) h = cc
line_nonempty size (Data c a body) h = cc

pub line_moves : (size : LinkSize) (frame : Frame) (n : ℕ) (xs : List ℕ) →
    IsLineFront size xs (line.Whole frame n) → 0 < n
line_moves size frame zero xs h = absurd (line_nonempty size frame h.0.spelled)
line_moves size frame (suc n) xs h = omega arith

pub apdu_moves : (apdu : Apdu) (n : ℕ) (xs : List ℕ) →
    IsApduFront xs (tcp.Whole apdu n) → 0 < n
apdu_moves apdu zero xs h = let e = h.0.spelled in cc
apdu_moves apdu (suc n) xs h = omega arith
