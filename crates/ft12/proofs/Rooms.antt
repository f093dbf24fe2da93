-- How many octets the frames that fit have.
use Rattle.std.proofs.Common.{◌≡◌, ℕ, ◌+◌, ◌≤◌, List, length, arith}
use Rattle.ft12.specs.declared.frame.LinkSize.{LinkSize}
use Rattle.ft12.specs.declared.frame.LinkSize.TheVariants.{One, Two}
use Rattle.ft12.specs.declared.frame.Frame.{Frame}
use Rattle.ft12.specs.declared.frame.Frame.TheVariants.{Single, Fixed, Data}
use Rattle.ft12.specs.Spelling.{address_len, user, spelling_len, Fits}

pub length-user : (size : LinkSize) (c a : ℕ) (body : List ℕ)
    → length (user size c a body) ≡ 1 + address_len size + length body
length-user One c a body = omega arith
length-user Two c a body = omega arith

pub longest : (size : LinkSize) (f : Frame) → Fits size f → spelling_len size f ≤ 261
longest size Single fits = omega arith
longest One (Fixed c a) fits = omega arith
longest Two (Fixed c a) fits = omega arith
longest size (Data c a body) fits = omega (arith, fits.2, length-user size c a body.items)
