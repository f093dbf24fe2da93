-- What a segment shows.
use Rattle.std.specs.Prelude.{ℕ, ◌+◌, Bool, List, [], ◌∷◌, ◌++◌, length}
use Rattle.sqlite_disk.specs.declared.Disk.{Ghosts}
use Rattle.segments.specs.declared.segment.Segment.{Segment}

-- these writes, and another one if it has lines
abbrev pub with_write : (writes : List (List ℕ)) → (lines : List ℕ) → List (List ℕ)
with_write writes [] = writes
with_write writes (c ∷ lines) = writes ++ (c ∷ lines) ∷ []

-- how many octets the seal of these lines has, if there are any
abbrev pub seal_octets : (lines : List ℕ) → ℕ
seal_octets [] = 0
seal_octets (c ∷ lines) = 27

module _ {D : Type 0} {g : Ghosts D} where
  -- its number
  abbrev pub own_number : Segment D g → ℕ
  own_number s = s.number

  -- its checkpoint
  abbrev pub body_of : Segment D g → List ℕ
  body_of s = s.written.has.body

  -- the writes behind that, which are synced
  abbrev pub writes_of : Segment D g → List (List ℕ)
  writes_of s = s.written.has.writes

  -- the lines that were appended behind the last seal
  abbrev pub open_of : Segment D g → List ℕ
  open_of s = s.written.has.lines

  -- how many octets its text has: all of these, and the seals
  abbrev pub octets_of : Segment D g → ℕ
  octets_of s = s.stored + length s.page.items

  -- its file
  abbrev pub file_of : Segment D g → D
  file_of s = s.file

  -- how long its file is
  abbrev pub size_of : Segment D g → ℕ
  size_of s = s.size

  -- what stays the same as lines come
  abbrev pub fixed_of : Segment D g → ℕ × List ℕ × ℕ
  fixed_of s = (s.number, s.written.has.body, s.size)

  abbrev pub is_open : Segment D g → Bool
  is_open s = s.is_open

  -- what a crash may leave of its file
  abbrev pub outcomes_of : Segment D g → List ℕ → Type 0
  outcomes_of s = g.may_leave s.file
