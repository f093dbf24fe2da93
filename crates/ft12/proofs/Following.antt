-- When a frame's octets come, the frame is received, and nothing of what stands behind it is taken.
use Rattle.std.proofs.Common.{◌≡◌, ℕ, ◌+◌, List, [], ◌++◌, length, subst, arith}
use Rattle.std.specs.Prelude.{Option}
use Rattle.ft12.specs.declared.frame.LinkSize.{LinkSize}
use Rattle.ft12.specs.declared.frame.Frame.{Frame}
use Rattle.ft12.specs.declared.frame.Front.TheVariants.{Whole, More, Never}
use Rattle.ft12.specs.declared.assembling.Received.{Received}
use Rattle.ft12.specs.declared.assembling.Received.TheVariants as arrived
use Rattle.ft12.specs.Spelling.{Fits, spelling}
use Rattle.ft12.specs.Reading.{IsFront}
use Rattle.ft12.specs.Assembly.{Receives, IsReceivedWhole}
use Rattle.ft12.proofs.Exact.{one_front}
use Rattle.ft12.proofs.Computed.{front_is, front_of-spelling}

whole : (size : LinkSize) (f : Frame) (more : List ℕ) → Fits size f
    → IsFront size (spelling size f ++ more) (Whole f (length (spelling size f)))
whole size f more fits = subst (λ front. IsFront size (spelling size f ++ more) front)
    (front_of-spelling size f more fits) (front_is size (spelling size f ++ more))

pub received_whole : (size : LinkSize) (f : Frame) (more : List ℕ) (n : ℕ) (h : Received)
    (after : Option (List ℕ))
    → Fits size f
    → Receives size [] (spelling size f ++ more) n h after → IsReceivedWhole size f n h after
received_whole size f more n (arrived.Frame g) after fits h =
    let same : Whole f (length (spelling size f)) ≡ Whole g (0 + n) =
    one_front size (spelling size f ++ more) (Whole g (0 + n)) (Whole f (length (spelling size f)))
    h.0
    (whole size f more fits) in
    let frames : f ≡ g = cc in
    let lengths : length (spelling size f) ≡ 0 + n = cc in
    record { frame_is = cc; taken = omega (arith, lengths); listening = h.1 }
received_whole size f more n arrived.More after fits h =
    let same : Whole f (length (spelling size f)) ≡ More =
    one_front size (spelling size f ++ more) More (Whole f (length (spelling size f))) h.0
    (whole size f more fits) in
    absurd cc
received_whole size f more n (arrived.Never place why) after fits h =
    let same : Whole f (length (spelling size f)) ≡ Never place why =
    one_front size (spelling size f ++ more) (Never place why) (Whole f (length (spelling size f)))
    h.0
    (whole size f more fits) in
    absurd cc
received_whole size f more n arrived.Deaf after fits h = absurd h
