-- A whole record as a capture (this gateway's own profile).
use Rattle.std.specs.Prelude.{◌≡◌, ℕ, ◌+◌, Bool, true, false, if◌then◌else◌, List, [], ◌∷◌, ◌++◌}
use Rattle.std.specs.Prelude.{map, length, Option, Result, MatchResult}
use Rattle.std.specs.List.{filter_map, flat_map, list_all}
use Rattle.std.specs.Io.KnownBytes.{Appends}
use Rattle.record.specs.Lines.{is_cut, whole_lines}
use Rattle.ft12.specs.declared.frame.LinkSize.{LinkSize}
use Rattle.gateway.specs.Log.{LogEntry}
use Rattle.traces.specs.Pouring.{IsBegun}
use Rattle.record.specs.Blocks.{file_header}
use Rattle.record.specs.Captures.{Captured, after_lines, blocks_of, blocks_of_lines, last_packets}
use Rattle.record.specs.Captures.{whole_capture}
use Rattle.record.specs.Recorded.{entry_logged, is_line}
use Rattle.record.specs.declared.capture.passing.Passed.{Passed}
use Rattle.record.specs.declared.capture.passing.Passed.TheVariants.{All, Wrong}
use Rattle.record.specs.declared.capture.whole.CaptureFault.{CaptureFault}
use Rattle.record.specs.declared.capture.whole.CaptureFault.TheVariants.{Line, Unread, Unwritten}
use Rattle.record.specs.declared.capture.whole.CaptureFault.TheVariants.{NoMemory}

-- ---- Lines

-- a line that was cut short logs nothing
abbrev pub kept_line : List ℕ → List ℕ
kept_line line = if is_cut line then [] else line

-- the lines of a record that a line feed ends
abbrev pub kept_lines : (text : List ℕ) → List (List ℕ)
kept_lines text = map kept_line (whole_lines text)

-- each logs an event or an action, or is empty or a comment
abbrev pub are_lines : List (List ℕ) → Bool
are_lines lines = list_all is_line lines

-- the packets of lines stand behind what is there
pub record ArePut (old : Captured) (lines : List (List ℕ)) (before after : List ℕ)
    (new : Captured) : Type 0 where
  pub right : are_lines lines ≡ true
  pub put : after ≡ before ++ blocks_of_lines old lines
  pub new_is : new ≡ after_lines old lines

-- these stand before the first that is wrong, whose number is this if the first of all has that
pub record IsFirstWrong (first n : ℕ) (lines some : List (List ℕ)) : Type 0 where
  pub wrong : List ℕ
  pub later : List (List ℕ)
  pub split : lines ≡ some ++ wrong ∷ later
  pub is_wrong : is_line wrong ≡ false
  pub right : are_lines some ≡ true
  pub number : n ≡ first + length some

-- All lines were put, and the one behind them has this number; or those before the first wrong one.
abbrev pub ArePassed : (first : ℕ) → (old : Captured) → (lines : List (List ℕ))
    → (before after : List ℕ) → (new : Captured) → Passed → Type 0
ArePassed first old lines before after new (All next) =
    ArePut old lines before after new × (next ≡ first + length lines)
ArePassed first old lines before after new (Wrong n) =
    (some : List (List ℕ)) × IsFirstWrong first n lines some × ArePut old some before after new

-- ---- Lines, written

-- what a capture ends with behind these lines
abbrev pub ended_blocks : Captured → (lines : List (List ℕ)) → List ℕ
ended_blocks c lines = blocks_of_lines c lines ++ blocks_of (last_packets (after_lines c lines))

-- the packets of lines were written, of which the first has this number, and the one behind them
-- that
pub record AreWritten (first next : ℕ) (old : Captured) (lines : List (List ℕ))
    (before after : Option (List ℕ)) (new : Captured) : Type 0 where
  pub right : are_lines lines ≡ true
  pub written : Appends before after (blocks_of_lines old lines)
  pub new_is : new ≡ after_lines old lines
  pub number : next ≡ first + length lines

-- those before the first wrong one were, and what a capture ends with
pub record IsWrongPart (first n : ℕ) (old : Captured) (lines : List (List ℕ))
    (before after : Option (List ℕ)) : Type 0 where
  pub some : List (List ℕ)
  pub wrong : IsFirstWrong first n lines some
  pub written : Appends before after (ended_blocks old some)

-- a beginning of the same was, behind some of the lines
pub record IsPartBegun (old : Captured) (lines : List (List ℕ)) (before after : Option (List ℕ))
    : Type 0 where
  pub some : List (List ℕ)
  pub later : List (List ℕ)
  pub split : lines ≡ some ++ later
  pub begun : IsBegun before after (ended_blocks old some)

abbrev pub IsPartFault : (first : ℕ) → (old : Captured) → (lines : List (List ℕ))
    → (before after : Option (List ℕ)) → CaptureFault → Type 0
IsPartFault first old lines before after (Line n) = IsWrongPart first n old lines before after
IsPartFault first old lines before after Unread = ⊥
IsPartFault first old lines before after Unwritten = IsPartBegun old lines before after
IsPartFault first old lines before after NoMemory = IsPartBegun old lines before after

-- ---- Records

-- the events and actions of lines, in their order
abbrev pub entries_in : List (List ℕ) → List LogEntry
entries_in lines = filter_map entry_logged lines

-- the file of a log: its header, and the blocks of the packets of each entry
abbrev pub file_of : LinkSize → List LogEntry → List ℕ
file_of size entries = file_header ++ flat_map blocks_of (whole_capture size entries)

-- a record whose octets may be these: no line of it is wrong, and the file of its log was written
pub record IsWhole (size : LinkSize) (has : List ℕ → Type 0) (old new : Option (List ℕ))
    : Type 0 where
  pub text : List ℕ
  pub is : has text
  pub right : are_lines (kept_lines text) ≡ true
  pub written : Appends old new (file_of size (entries_in (kept_lines text)))

-- this line of it is the first wrong one, and the file of those before it was written
pub record IsWrongRecord (size : LinkSize) (has : List ℕ → Type 0) (n : ℕ)
    (old new : Option (List ℕ)) : Type 0 where
  pub text : List ℕ
  pub is : has text
  pub some : List (List ℕ)
  pub wrong : IsFirstWrong 1 n (kept_lines text) some
  pub written : Appends old new (file_of size (entries_in some))

-- of the file of some of its lines, the first ones, a beginning was written
pub record IsPartly (size : LinkSize) (has : List ℕ → Type 0) (old new : Option (List ℕ))
    : Type 0 where
  pub text : List ℕ
  pub is : has text
  pub some : List (List ℕ)
  pub later : List (List ℕ)
  pub split : kept_lines text ≡ some ++ later
  pub begun : IsBegun old new (file_of size (entries_in some))

abbrev pub IsCaptureFault : LinkSize → (has : List ℕ → Type 0) → (old new : Option (List ℕ))
    → CaptureFault → Type 0
IsCaptureFault size has old new (Line n) = IsWrongRecord size has n old new
IsCaptureFault size has old new Unread = IsPartly size has old new
IsCaptureFault size has old new Unwritten = IsPartly size has old new
IsCaptureFault size has old new NoMemory = IsPartly size has old new

-- what became of the capture of a record whose octets may be these
abbrev pub IsCaptured : LinkSize → (has : List ℕ → Type 0) → (old new : Option (List ℕ))
    → Result (Unit {0}) CaptureFault → Type 0
IsCaptured size has old new result =
    MatchResult result (λ done. IsWhole size has old new) (IsCaptureFault size has old new)

-- no more of a record is had
abbrev pub IsReadFault : CaptureFault → Type 0
IsReadFault (Line n) = ⊥
IsReadFault Unread = Unit {0}
IsReadFault Unwritten = ⊥
IsReadFault NoMemory = Unit {0}

-- what a capture ends with can't be written, or memory was refused
abbrev pub IsEndFault : CaptureFault → Type 0
IsEndFault (Line n) = ⊥
IsEndFault Unread = ⊥
IsEndFault Unwritten = Unit {0}
IsEndFault NoMemory = Unit {0}
