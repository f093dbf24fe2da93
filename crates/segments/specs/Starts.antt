-- What a start finds in a file (profile).
use Rattle.std.specs.Io.Iter.{u64_saturate}
use Rattle.std.specs.Prelude.{◌≡◌, ◌≢◌, ◌⊎◌, Bool, true, false, nat_le, ℕ, ◌+◌, ◌<◌, ◌≤◌}
use Rattle.std.specs.Prelude.{List, length, slice_index}
use Rattle.sqlite_disk.specs.Disk.{Holds}
use Rattle.statetext.specs.Sum.{sum_of}
use Rattle.segments.specs.Head.{Fits, head_of}
use Rattle.segments.specs.declared.head.SegmentHead.{SegmentHead}
use Rattle.segments.specs.declared.start.FileFront.{FileFront}
use Rattle.segments.specs.declared.start.FileFront.TheVariants as fronts
use Rattle.segments.specs.declared.start.Side.{Side}
use Rattle.segments.specs.declared.start.Side.TheVariants as sides

abbrev pub other_side : Side → Side
other_side sides.Log = sides.Db
other_side sides.Db = sides.Log

-- the file was never written, or its first octet is `-` (45)
abbrev pub IsShut : List ℕ → Type 0
IsShut file = (length file < 2) ⊎ (slice_index file 0 ≡ 45)

-- nothing was ever begun in the file, or nothing is left of it: it has fewer than 2 octets, and its
-- first octet isn't `-` (45)
abbrev pub IsBlank : List ℕ → Type 0
IsBlank file = (length file < 2) × (slice_index file 0 ≢ 45)

-- its first octet is `-`, or nothing was begun in it, or it begins with this first line of a
-- segment,
-- or with something else
abbrev pub BeginsSo : List ℕ → FileFront → Type 0
BeginsSo file fronts.Shut = slice_index file 0 ≡ 45
BeginsSo file fronts.Blank = IsBlank file
BeginsSo file (fronts.Head head) = Holds file 0 (head_of head)
BeginsSo file fronts.Other = IsShut file → ⊥

-- so does the file begin, and with no other first line of a segment
pub record IsHeadIn (file : List ℕ) (front : FileFront) : Type 0 where
  pub begins : BeginsSo file front
  pub heads : (head : SegmentHead) → Fits head → Holds file 0 (head_of head)
      → front ≡ fronts.Head head

abbrev pub number_in : FileFront → ℕ
number_in fronts.Shut = 0
number_in fronts.Blank = 0
number_in (fronts.Head head) = head.number
number_in fronts.Other = 0

abbrev pub is_shut : FileFront → Bool
is_shut fronts.Shut = true
is_shut fronts.Blank = true
is_shut (fronts.Head head) = false
is_shut fronts.Other = false

-- A file that begins so may have had a segment as new as the one with this number: it isn't shut,
-- and doesn't begin with the first line of an older one. Only beside the first segment of an older
-- version, which had number 1, nothing may ever have been begun in it.
abbrev pub may_have_newer : (number : ℕ) → FileFront → Bool
may_have_newer number fronts.Shut = false
may_have_newer number fronts.Blank = nat_le 2 number
may_have_newer number (fronts.Head head) = nat_le number head.number
may_have_newer number fronts.Other = true

-- the file has a segment with this first line, and this checkpoint, whose length and whose sum the
-- line says
pub record IsFoundIn (file : List ℕ) (head : SegmentHead) (text : List ℕ) : Type 0 where
  pub first : Holds file 0 (head_of head)
  pub octets : length text ≡ head.octets
  pub sum : sum_of text ≡ head.sum
  pub behind : 0 < length text → Holds file 87 text

-- the file has no segment
abbrev pub HasNone : List ℕ → Type 0
HasNone file = (head : SegmentHead) (text : List ℕ) → Fits head → IsFoundIn file head text → ⊥

-- of two files with a segment the first one has the higher number, or both have the same
abbrev pub IsNewest : (newest other : List ℕ) → Type 0
IsNewest newest other = (own head : SegmentHead) (text others : List ℕ) → Fits own → Fits head →
    IsFoundIn newest own text → IsFoundIn other head others → head.number ≤ own.number

-- the file begins with `-`, or has a segment: no crash leaves another one beside a log
abbrev pub IsSound : List ℕ → Type 0
IsSound file = (slice_index file 0 ≡ 45)
    ⊎ ((head : SegmentHead) × (text : List ℕ) × Fits head × IsFoundIn file head text)

-- these are the two files as they were, the newest segment being in the one of this side
abbrev pub ArePlaced : Side → (log db newest other : List ℕ) → Type 0
ArePlaced sides.Log log db newest other = (newest ≡ log) × (other ≡ db)
ArePlaced sides.Db log db newest other = (newest ≡ db) × (other ≡ log)

-- a segment whose first line stands in the file has a number below this one, unless this is the
-- greatest of 64 bits
abbrev pub IsAbove : ℕ → List ℕ → Type 0
IsAbove number file = (head : SegmentHead) → Fits head → Holds file 0 (head_of head) →
    u64_saturate (head.number + 1) ≤ number

-- a first line of the segment before the one with this number stands in the file
abbrev pub IsBehind : ℕ → List ℕ → Type 0
IsBehind number file =
    (head : SegmentHead) × Fits head × Holds file 0 (head_of head)
    × (number ≡ u64_saturate (head.number + 1))

-- the number of the first segment: only that of an older version was 1
abbrev pub first_number : ℕ
first_number = 2

-- the number is the first one, or the next behind a first line that stands in one of the files
abbrev pub IsNext : ℕ → (newest other : List ℕ) → Type 0
IsNext number newest other = (number ≡ first_number)
    ⊎ (IsBehind number newest ⊎ IsBehind number other)

-- the file begins with the first line of a segment that was the first one of an older version
abbrev pub IsFirst : List ℕ → Type 0
IsFirst file = (own : SegmentHead) × Fits own × Holds file 0 (head_of own) × (own.number ≤ 1)

-- The other file is shut, or begins with the first line of a segment that is older: so none as new
-- as the newest ever stood there. It has something in it, unless the newest is of an older version.
abbrev pub HasNoNewer : (newest other : List ℕ) → Type 0
HasNoNewer newest other = (IsShut other × (IsBlank other → IsFirst newest))
    ⊎ ((own : SegmentHead) × (head : SegmentHead) × Fits own × Fits head
    × Holds newest 0 (head_of own) × Holds other 0 (head_of head) × (head.number < own.number))

-- the file has a segment whose number is at least this one
pub record HasAsNew (number : ℕ) (file : List ℕ) : Type 0 where
  pub head : SegmentHead
  pub text : List ℕ
  pub fits : Fits head
  pub found : IsFoundIn file head text
  pub order : number ≤ head.number

-- The other file may be written over: if it has a segment, this one has one that isn't older.
abbrev pub IsBacked : (newest other : List ℕ) → Type 0
IsBacked newest other = (head : SegmentHead) (text : List ℕ) → Fits head → IsFoundIn other head text
    →
    HasAsNew head.number newest

-- the file begins with the first line of a segment that is newer than the one with this number
abbrev pub BeginsNewer : ℕ → List ℕ → Type 0
BeginsNewer number file =
    (head : SegmentHead) × Fits head × Holds file 0 (head_of head) × (number < head.number)

-- each segment that the file has is older than the one with this number
abbrev pub IsBelow : ℕ → List ℕ → Type 0
IsBelow number file = (head : SegmentHead) (text : List ℕ) → Fits head → IsFoundIn file head text →
    head.number < number

-- so does the file of this side back the other one
abbrev pub IsBackedBy : Side → (log db : List ℕ) → Type 0
IsBackedBy sides.Log log db = IsBacked log db
IsBackedBy sides.Db log db = IsBacked db log

-- a file that begins so has a segment that is whole
abbrev pub IsWholeIn : List ℕ → FileFront → Type 0
IsWholeIn file front = (head : SegmentHead) × (text : List ℕ) × (front ≡ fronts.Head head)
    × IsFoundIn file head text

-- the numbers of a first line have so few digits
abbrev pub FitsIn : FileFront → Type 0
FitsIn fronts.Shut = Unit {0}
FitsIn fronts.Blank = Unit {0}
FitsIn (fronts.Head head) = Fits head
FitsIn fronts.Other = Unit {0}
