-- What stands before what in a step.
use Rattle.std.proofs.Common.{◌≡◌, ℕ, true, List, [], ◌∷◌, ◌++◌, Some, None}
use Rattle.std.proofs.Common.{◌∙◌, subst, arith, inl, inr}
use Rattle.std.specs.Prelude.{◌⊎◌, false}
use Rattle.apci.specs.declared.apdu.Apdu.{Apdu}
use Rattle.apci.specs.declared.apdu.Apdu.TheVariants.{I, S, U}
use Rattle.session.specs.History.{confirmation_of}
use Rattle.gateway.specs.Log.{Log, latest}
use Rattle.gateway.specs.Walls.{wall_on}
use Rattle.gateway.specs.Connections.{present}
use Rattle.gateway.specs.Reports.{Setup}
use Rattle.gateway.specs.Course.{Course, with_frames, IsFlushed, IsUntouched}
use Rattle.gateway.specs.Course.{NoFrameDue, MayTake, AreTaken, TakesFrames, IsNext}
use Rattle.gateway.specs.Course.{HasAnswered, HasBegun, HasNothingDue, HasTakenAll}
use Rattle.gateway.specs.Course.{SendsNext}
use Rattle.gateway.specs.Stepping.{NoDataMayGo, IsAllOut, HasTakenOne, bears_asdu}

-- What may still go out

no_data : (p : Setup) (log : Log) (c : Course) → IsFlushed p log c → NoDataMayGo p log c
no_data p log c flushed started few =
    let all = flushed started few in (all.answers, all.objects)

-- S frames and tests

-- what is said of a frame without an ASDU
abbrev Short : Setup → Log → Course → Apdu → Type 0
Short p log c frame = (confirmation_of c.talk ≡ Some frame)
    ⊎ ((confirmation_of c.talk ≡ None) × NoDataMayGo p log c
    × (HasTakenOne log c ⊎ HasTakenAll (present log) c.talk))

due_or_last : (p : Setup) (log : Log) (c : Course) (frame : Apdu)
    → (confirmation_of c.talk ≡ Some frame)
    ⊎ ((confirmation_of c.talk ≡ None) × IsFlushed p log c × HasBegun log c)
    → Short p log c frame
due_or_last p log c frame (inl due) = inl due
due_or_last p log c frame (inr last) = inr (last.0, no_data p log c last.1, last.2)

short : (p : Setup) (log : Log) (c : Course) (frame : Apdu) → IsNext p log frame c
    → bears_asdu frame ≡ false → Short p log c frame
short p log c (I ns nr asdu) next bears = let wrong : true ≡ false = bears in cc
short p log c (S nr) next bears = due_or_last p log c (S nr) next
short p log c (U function) next bears = due_or_last p log c (U function) next

taken_one : (p : Setup) (log : Log) (now : ℕ) (c : Course) (frame : Apdu) (older : List Apdu)
    (newer : List Apdu) → AreTaken p log now (newer ++ frame ∷ older) c
    → MayTake p log now frame (with_frames p older now (wall_on log now) c)
taken_one p log now c frame older [] taken = taken.0
taken_one p log now c frame older (f ∷ newer) taken =
    taken_one p log now c frame older newer taken.1

-- if a frame of the event was taken, it isn't so that none was
touched : (log : Log) (c : Course) (P : Type 0) → HasTakenOne log c → IsUntouched log c ⊎ P → P
touched log c P one (inl none) = absurd (omega (arith, one, none))
touched log c P one (inr so) = so

all_out : (p : Setup) (log : Log) (now : ℕ) (frame : Apdu) (c : Course)
    → MayTake p log now frame c → HasTakenOne log c → IsAllOut p log now c
all_out p log now frame c may one = record {
  confirmed = may.rules.0.0.confirmed;
  flushed = no_data p log c may.flushed;
  short = touched log c (NoFrameDue p now c) one may.undue;
}

pub answered_first : (p : Setup) (log : Log) (now : ℕ) (before after : Course) (frame : Apdu)
    (newer older : List Apdu) (t : TakesFrames p log now before after)
    → t.frames ≡ newer ++ frame ∷ older
    → HasTakenOne log (with_frames p older now (wall_on log now) before)
    → IsAllOut p log now (with_frames p older now (wall_on log now) before)
answered_first p log now before after frame newer older t e one =
    all_out p log now frame (with_frames p older now (wall_on log now) before)
    (taken_one p log now before frame older newer
    (subst (λ (fs : List Apdu). AreTaken p log now fs before) e t.each)) one

-- What comes behind all frames of the event

answered_all : (p : Setup) (log : Log) (c : Course) → HasTakenOne log c → HasAnswered p log c
    → IsAllOut p log (latest log) c
answered_all p log c one answered =
    let due = touched log c (HasNothingDue p log c) one answered in
    record {
      confirmed = due.confirmed;
      flushed = no_data p log c due.flushed;
      short = due.undue;
    }

pub asked_behind : (p : Setup) (log : Log) (octets : List ℕ) (before after : Course)
    → SendsNext p log octets before after → HasTakenOne log before
    → IsAllOut p log (latest log) before
asked_behind p log octets before after h one = answered_all p log before one h.answered
