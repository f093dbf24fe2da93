-- Octets cut into frames.
use Rattle.std.proofs.Common.{◌≡◌, ℕ, zero, suc, ◌<◌, ◌≤◌, List, ◌∷◌, ◌++◌, length}
use Rattle.std.proofs.Common.{refl, ap, arith}
use Rattle.std.proofs.lemmas.List.{length-append}
use Rattle.ft12.specs.Borrowed.{owned_front}
use Rattle.ft12.specs.Reading.{IsFront, IsProperBeginning}
use Rattle.ft12.specs.Spelling.{spelling, Fits}
use Rattle.ft12.specs.declared.frame.Frame.{Frame}
use Rattle.ft12.specs.declared.frame.Frame.TheVariants.{Single, Fixed, Data}
use Rattle.ft12.specs.declared.frame.Front.TheVariants.{Whole, More, Never}
use Rattle.ft12.specs.declared.frame.FrameRef.{FrameRef}
use Rattle.ft12.specs.declared.frame.FrontRef.{FrontRef}
use Rattle.ft12.specs.declared.frame.FrontRef.TheVariants as lent
use Rattle.ft12.specs.declared.frame.LinkSize.{LinkSize}
use Rattle.ft12.specs.declared.frame.LinkSize.TheVariants.{One, Two}

-- a spelling has 261 octets at most
spelling_short : (size : LinkSize) (frame : Frame) → Fits size frame →
    length (spelling size frame) ≤ 261
spelling_short size Single h = omega arith
spelling_short One (Fixed c a) h = omega arith
spelling_short Two (Fixed c a) h = omega arith
spelling_short One (Data c a body) h = simp length-append (omega (arith, h.2))
spelling_short Two (Data c a body) h = simp length-append (omega (arith, h.2))

-- a spelling has an octet
spelling_some : (size : LinkSize) (frame : Frame) → 1 ≤ length (spelling size frame)
spelling_some size Single = omega arith
spelling_some One (Fixed c a) = omega arith
spelling_some Two (Fixed c a) = omega arith
spelling_some One (Data c a body) = omega arith
spelling_some Two (Data c a body) = omega arith

-- a proper beginning of a frame is shorter
pub beginning_short : (size : LinkSize) (octets : List ℕ) → IsProperBeginning size octets →
    length octets < 262
beginning_short size octets b =
    let short = spelling_short size b.frame b.line.fits in
    let whole : length (octets ++ b.next ∷ b.rest) ≡ length (spelling size b.frame) =
    ap length b.line.spelled in
    let parts = length-append octets (b.next ∷ b.rest) in
    omega arith

-- a whole frame has an octet
pub frame_some : (size : LinkSize) (octets : List ℕ) (frame : Frame) (n : ℕ) →
    IsFront size octets (Whole frame n) → 1 ≤ n
frame_some size octets frame zero h =
    let none : 0 ≡ length (spelling size frame) = ap length h.0.spelled in
    absurd (let some = spelling_some size frame in omega arith)
frame_some size octets frame (suc n) h = omega arith

-- a lent front that isn't a whole frame
pub no_whole : (r : FrontRef) → ((f : FrameRef) (n : ℕ) → r ≡ lent.Whole f n → ⊥) →
    (frame : Frame) (n : ℕ) → owned_front r ≡ Whole frame n → ⊥
no_whole (lent.Whole f m) h frame n e = h f m refl
no_whole lent.More h frame n e = cc
no_whole (lent.Never place why) h frame n e = cc
