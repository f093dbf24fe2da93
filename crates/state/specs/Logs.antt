-- What a log in two files has (profile).
use Rattle.std.specs.Prelude.{◌≡◌, ◌⊎◌, ℕ, ◌<◌, List, [], ◌∷◌, ◌++◌, IsTrue}
use Rattle.std.specs.Prelude.{Bool, true, None}
use Rattle.std.specs.List.{concat}
use Rattle.sqlite_disk.specs.declared.Disk.{Ghosts}
use Rattle.segments.specs.Crash.{AreMixing, HasNoOther}
use Rattle.segments.specs.Crashes.{IsShutAmong, Survives, damage_behind, lines_behind, log_text}
use Rattle.segments.specs.Head.{Fits, head_for}
use Rattle.segments.specs.Segment.{body_of, file_of, open_of, outcomes_of, own_number, writes_of}
use Rattle.segments.specs.Starts.{IsFoundIn, IsSound}
use Rattle.segments.specs.declared.head.SegmentHead.{SegmentHead}
use Rattle.statetext.specs.Text.{lines_in}
use Rattle.state.specs.Doubts.{IsUndoubted}
use Rattle.state.specs.Stores.{Stored}
use Rattle.state.specs.declared.opened.Opened.{Opened}
use Rattle.state.specs.declared.opened.Opened.TheVariants as opens

-- a segment of the other file is older than each one of this file
abbrev pub HasOlder : (file other : List ℕ) → Type 0
HasOlder file other = (own head : SegmentHead) (text others : List ℕ) → Fits own → Fits head
    → IsFoundIn file own text → IsFoundIn other head others → head.number < own.number

-- a file beside that of the log: no start doubts it, and each segment of it is older
pub record IsOlderBeside (file other : List ℕ) : Type 0 where
  pub sound : IsUndoubted other
  pub older : HasOlder file other

-- a file has the log with this number, which begins with these settings and these lines: a start
-- reads no events behind them yet, and no damage
pub record HasFreshLog (number : ℕ) (settings : List ℕ) (lines : List (List ℕ)) (file : List ℕ) :
    Type 0 where
  pub body : List ℕ
  pub fits : Fits (head_for number body)
  pub found : IsFoundIn file (head_for number body) body
  pub empty : lines_behind body file ≡ []
  pub sound : damage_behind body file ≡ None
  pub says : lines_in body ≡ settings ∷ lines

-- What a file has when the next log, with this number and this head, is begun in it: it is shut, or
-- has what it may have had before, or has the next log. It has nothing in it only if it may have
-- had
-- nothing before.
abbrev pub IsAmid : (before : List ℕ → Type 0) → (number : ℕ) → (settings : List ℕ)
    → (lines : List (List ℕ)) → (file : List ℕ) → Type 0
IsAmid before number settings lines file =
    IsShutAmong before file ⊎ (before file ⊎ HasFreshLog number settings lines file)

-- whatever a crash leaves of a file, the next log is begun in it so
abbrev pub AreAmid : (before : List ℕ → Type 0) → (number : ℕ) → (settings : List ℕ)
    → (lines : List (List ℕ)) → (outcomes : List ℕ → Type 0) → Type 0
AreAmid before number settings lines outcomes =
    (file : List ℕ) → outcomes file → IsAmid before number settings lines file

-- a file has what one of two files has
abbrev pub IsOneOf : (one two file : List ℕ) → Type 0
IsOneOf one two file = (file ≡ one) ⊎ (file ≡ two)

-- it has what one of two files had that were opened
pub record WasOpened {D : Type 0} (g : Ghosts D) (opened : D → D → Type 0) (file : D) : Type 0 where
  pub one : D
  pub two : D
  pub were : opened one two
  pub is : IsOneOf (g.seen one) (g.seen two) (g.seen file)

-- if no log takes lines
abbrev pub nothing_stored : Stored
nothing_stored = record { head = []; safe = []; held = []; octets = 0 }

module _ {D : Type 0} {g : Ghosts D} where
  abbrev pub stored_in : Opened D g → Stored
  stored_in opens.Neither = nothing_stored
  stored_in (opens.Both newest spare) = nothing_stored
  stored_in (opens.Current c) = record {
    head = lines_in (body_of c.segment);
    safe = concat (writes_of c.segment);
    held = open_of c.segment;
    octets = c.octets;
  }

  -- of a log that takes no lines yet, this holds of the file of the newest segment
  abbrev pub NewestIs : (D → Type 0) → Opened D g → Type 0
  NewestIs P opens.Neither = ⊥
  NewestIs P (opens.Both newest spare) = P newest
  NewestIs P (opens.Current c) = ⊥

  -- the file of the segment before the newest one is this, as it was
  abbrev pub SpareIs : D → Opened D g → Type 0
  SpareIs file opens.Neither = ⊥
  SpareIs file (opens.Both newest spare) = ⊥
  SpareIs file (opens.Current c) = c.spare ≡ file

  -- the log that takes lines bears this number
  abbrev pub Bears : ℕ → Opened D g → Type 0
  Bears number opens.Neither = ⊥
  Bears number (opens.Both newest spare) = ⊥
  Bears number (opens.Current c) = own_number c.segment ≡ number

  -- What a crash may leave of the file of the log that takes lines. If none does, that is anything.
  abbrev pub leaves_in : Opened D g → List ℕ → Type 0
  leaves_in opens.Neither = λ file. Unit {0}
  leaves_in (opens.Both newest spare) = λ file. Unit {0}
  leaves_in (opens.Current c) = outcomes_of c.segment

  -- What a crash may leave of that file and of the other one, if each read of the other has gone
  -- well. If no log takes lines, that is anything.
  abbrev pub leaves_both : Opened D g → (file other : List ℕ) → Type 0
  leaves_both opens.Neither = λ file other. Unit {0}
  leaves_both (opens.Both newest spare) = λ file other. Unit {0}
  leaves_both (opens.Current c) = λ file other.
      IsTrue (g.is_clean c.spare) × outcomes_of c.segment file × g.may_leave c.spare other

  -- The same while the next log is begun in the other file, with this number and this head: there
  -- that file is shut, or as it was, or has the next log.
  abbrev pub leaves_amid : Opened D g → (number : ℕ) → (settings : List ℕ)
      → (lines : List (List ℕ)) → (file other : List ℕ) → Type 0
  leaves_amid opens.Neither number settings lines = λ file other. Unit {0}
  leaves_amid (opens.Both newest spare) number settings lines = λ file other. Unit {0}
  leaves_amid (opens.Current c) number settings lines = λ file other.
      IsTrue (g.is_clean c.spare) × (c.number < number) × outcomes_of c.segment file
      × IsAmid (g.may_leave c.spare) number settings lines other

  -- it is the file of the log that took lines, or has what one of two open files had
  abbrev pub WasOpen : Opened D g → (file : D) → Type 0
  WasOpen opens.Neither file = ⊥
  WasOpen (opens.Both one two) file = IsOneOf (g.seen one) (g.seen two) (g.seen file)
  WasOpen (opens.Current c) file = file ≡ file_of c.segment

  -- The file beside a log that was begun is that of the newest one before, as it was: one that was
  -- open, or one that was opened then. Only one that no crash leaves is another: that is shut.
  pub record IsLeftBeside (opened : D → D → Type 0) (before after : Opened D g) : Type 0 where
    pub file : D
    pub was : WasOpen before file ⊎ WasOpened g opened file
    pub is : SpareIs file after ⊎ (IsTrue (g.is_clean file) → IsSound (g.seen file) → ⊥)

  -- each read of the file beside the log has gone well
  abbrev pub IsReadWell : Opened D g → Type 0
  IsReadWell opens.Neither = Unit {0}
  IsReadWell (opens.Both newest spare) = Unit {0}
  IsReadWell (opens.Current c) = IsTrue (g.is_clean c.spare)

  -- both files are open
  abbrev pub AreOpen : Opened D g → Type 0
  AreOpen opens.Neither = ⊥
  AreOpen (opens.Both newest spare) = Unit {0}
  AreOpen (opens.Current c) = Unit {0}

  -- What a crash may leave of the file of a log, and of the one in which the next log was to be
  -- begun, behind the call that was to do that. If neither file is left open, that is nothing.
  abbrev pub leaves_behind : Opened D g → (file other : List ℕ) → Type 0
  leaves_behind opens.Neither = λ file other. ⊥
  leaves_behind (opens.Both newest spare) = λ file other.
      g.may_leave newest file × g.may_leave spare other
  leaves_behind (opens.Current c) = λ file other.
      g.may_leave c.spare file × outcomes_of c.segment other

  -- these two are the files of a log that takes lines: its own, which no start doubts, and the
  -- other one, as it was
  abbrev pub AreFilesOf : Opened D g → (newest spare : D) → (is_sound : Bool) → (number : ℕ)
      → Type 0
  AreFilesOf opens.Neither newest spare is_sound number = Unit {0}
  AreFilesOf (opens.Both one two) newest spare is_sound number = Unit {0}
  AreFilesOf (opens.Current c) newest spare is_sound number =
      (newest ≡ file_of c.segment) × (is_sound ≡ true) × (c.number < number)
      × ((file : List ℕ) → g.may_leave spare file → g.may_leave c.spare file)

  -- Whatever a crash leaves of that file: the segment with the head that the log says, and behind
  -- it the writes that are synced. If a crash leaves each octet old or new, each octet there is one
  -- of the log with the write that waits, or 0.
  pub record SurvivesAsLogged (opened : Opened D g) : Type 0 where
    pub number : ℕ
    pub body : List ℕ
    pub says : lines_in body ≡ (stored_in opened).head
    pub writes : List (List ℕ)
    pub synced : concat writes ≡ (stored_in opened).safe
    pub survives : Survives (leaves_in opened) number body writes
    pub mixed : AreMixing g → HasNoOther (leaves_in opened)
        (log_text number body (writes ++ (stored_in opened).held ∷ []))
