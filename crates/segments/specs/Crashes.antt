-- What a start finds when there was a crash (profile).
use Rattle.std.specs.Prelude.{◌≡◌, ◌⊎◌, true, ℕ, ◌+◌, ◌-◌, ◌<◌, ◌≤◌, List, ◌++◌, length, Option}
use Rattle.segments.specs.Crash.{BeginsWith, HasLength, HasText}
use Rattle.segments.specs.Head.{Fits, head_for, head_of, whole_text}
use Rattle.segments.specs.Room.{is_room, damage_in, log_in}
use Rattle.segments.specs.Starts.{IsBacked, IsBlank, IsFoundIn, IsShut}
use Rattle.statetext.specs.Sealed.{AreWrites, sealed_text}
use Rattle.segments.specs.declared.head.SegmentHead.{SegmentHead}

-- the text of a segment with this checkpoint and these writes, each of which has its seal
abbrev pub log_text : (number : ℕ) → (body : List ℕ) → (writes : List (List ℕ)) → List ℕ
log_text number body writes =
    whole_text number body ++ sealed_text (head_of (head_for number body)) writes

-- Whatever a crash leaves of a segment's file: the segment has this number and this checkpoint, and
-- behind that these writes, which are synced. The file goes on for its whole room behind it.
pub record Survives (outcomes : List ℕ → Type 0) (number : ℕ) (body : List ℕ)
    (writes : List (List ℕ)) : Type 0 where
  pub fits : Fits (head_for number body)
  pub are : AreWrites writes
  pub size : ℕ
  pub long : HasLength outcomes size
  pub blocks : is_room (size - (87 + length body)) ≡ true
  pub room : length (log_text number body writes) ≤ size
  pub kept : BeginsWith outcomes (length (log_text number body writes))
      (log_text number body writes)

-- each segment that a crash may leave in a file has a number below this one
abbrev pub AreOlder : (List ℕ → Type 0) → ℕ → Type 0
AreOlder outcomes number = (c : List ℕ) → outcomes c → (head : SegmentHead) (text : List ℕ)
    → Fits head →
    IsFoundIn c head text → head.number < number

-- a file is shut, and if nothing is in it, one of these has nothing either
abbrev pub IsShutAmong : (these : List ℕ → Type 0) → (file : List ℕ) → Type 0
IsShutAmong these file =
    IsShut file × (IsBlank file → (before : List ℕ) × these before × IsBlank before)

-- each outcome is shut, or one of these
abbrev pub AreShutOr : (outcomes : List ℕ → Type 0) → (List ℕ → Type 0) → Type 0
AreShutOr outcomes these = (c : List ℕ) → outcomes c → IsShutAmong these c ⊎ these c

-- a file has the segment with this number and this checkpoint, and zeros alone behind it: its room
pub record HasWhole (number : ℕ) (body file : List ℕ) : Type 0 where
  pub fits : Fits (head_for number body)
  pub text : HasText (whole_text number body) file
  pub blocks : is_room (length file - (87 + length body)) ≡ true

-- whatever a crash leaves of a file has the segment with this number, whole
abbrev pub StandsIn : (List ℕ → Type 0) → ℕ → Type 0
StandsIn outcomes number = (c : List ℕ) → outcomes c → (body : List ℕ)
    × Fits (head_for number body) × IsFoundIn c (head_for number body) body

-- whatever a crash leaves of the newest file, this other one may be written over beside it
abbrev pub StaysBacked : (newest : List ℕ → Type 0) → (other : List ℕ) → Type 0
StaysBacked newest other = (c : List ℕ) → newest c → IsBacked c other

-- the lines that a start reads behind the checkpoint of a file, and where they end for damage
abbrev pub lines_behind : (body file : List ℕ) → List ℕ
lines_behind body file = log_in (87 + length body) file

abbrev pub damage_behind : (body file : List ℕ) → Option ℕ
damage_behind body file = damage_in (87 + length body) file

-- these are the two files
abbrev pub AreBoth : (one two newest other : List ℕ) → Type 0
AreBoth one two newest other = ((newest ≡ one) × (other ≡ two)) ⊎ ((newest ≡ two) × (other ≡ one))

-- a start has found this segment, and no other
pub record IsThatOf (file : List ℕ) (number : ℕ) (body newest : List ℕ) (head : SegmentHead)
    (text : List ℕ) : Type 0 where
  pub same : newest ≡ file
  pub first : head ≡ head_for number body
  pub checkpoint : text ≡ body
