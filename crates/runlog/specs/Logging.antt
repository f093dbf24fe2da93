-- The lines of a run, and what they are a function of (this gateway's own profile).
use Rattle.std.specs.Io.Iter.{u64_saturate}
use Rattle.std.specs.Prelude.{◌≡◌, ℕ, not, ◌&&◌, ◌||◌, Bool, true, false, List, [], ◌∷◌}
use Rattle.std.specs.Prelude.{length, Option, Some, None, if◌then◌else◌}
use Rattle.events.specs.Queue.{kept as pieces_kept}
use Rattle.gateway.specs.Log.{Output}
use Rattle.gateway.specs.State.{State, counts_of}
use Rattle.gateway.specs.declared.ports.Next.{Next}
use Rattle.live.specs.declared.watched.Failure.{Failure}
use Rattle.live.specs.declared.watched.Notice.{Notice}
use Rattle.live.specs.declared.watched.EndsSight.{EndsSight}
use Rattle.runlog.specs.Watching.{Watching, event_noted, put, is_look_due, looked_at, judged}
use Rattle.runlog.specs.Watching.{unless_line, line_of, sum_line, failed, has_trail, heard}
use Rattle.runlog.specs.Watching.{told}
use Rattle.runlog.specs.declared.note.LogLine.{LogLine}
use Rattle.runlog.specs.declared.note.Note.{Note}
use Rattle.runlog.specs.declared.note.Note.TheVariants as note

-- the lines so far, the newest first, if they are noted
abbrev pub Lines : Type 0
Lines = Option (List LogLine)

-- One more, if it is taken. A sink that notes nothing goes on noting nothing.
abbrev pub kept : (taken : Bool) → LogLine → Lines → Lines
kept false line lines = lines
kept true line None = None
kept true line (Some before) = Some (line ∷ before)

-- What was logged, and where to; which lines were handed over there, taken or not; whether a log
-- was wished at all, which never changes; whether the log is over, since none was wished, or no
-- line was taken any more; and whether the run is watched all the same.
pub record Book : Type 0 where
  pub watching : Watching
  pub lines : Lines
  pub handed : Lines
  pub is_wished : Bool
  pub is_over : Bool
  pub is_watching : Bool

-- a log that wasn't wished is over
abbrev pub IsWishedFirst : (is_wished is_over : Bool) → Type 0
IsWishedFirst is_wished is_over = is_wished ≡ false → is_over ≡ true

-- what is fixed of a log: whether it was wished, and whether the run is watched
pub record BookFixture : Type 0 where
  pub is_wished : Bool
  pub is_watching : Bool

abbrev pub book_fixture : Book → BookFixture
book_fixture b = record { is_wished = b.is_wished; is_watching = b.is_watching }

-- what is fixed of a run that is logged: what is of the port inside, and what is of the log
pub record LoggedFixture (F : Type 0) : Type 0 where
  pub port : F
  pub book : BookFixture

abbrev pub logged_fixture : {F : Type 0} → F → Book → LoggedFixture F
logged_fixture port b = record { port = port; book = book_fixture b }

-- a line is handed over, and is taken or not
abbrev pub handed_over : LogLine → (taken : Bool) → Book → Book
handed_over line taken b = record b {
  lines = kept taken line b.lines;
  handed = kept true line b.handed;
  is_over = not taken;
}

-- who looks is told of a line, and it is handed over if the log isn't over
abbrev pub logged : Option LogLine → (taken : Bool) → Book → Book
logged None taken b = b
logged (Some line) taken b =
    let heard_of : Book = record b { watching = heard line b.watching } in
    if b.is_over then heard_of else handed_over line taken heard_of

abbrev pub after : Watching × Option LogLine → (taken : Bool) → Book → Book
after w taken b = logged w.1 taken (record b { watching = w.0 })

-- nothing is done any more once the log is over, if the run isn't watched
abbrev pub unless_over : Book → Book → Book
unless_over old new = if old.is_over && not old.is_watching then old else new

-- an event came, whose octets are the front of the buffer, and the ends were seen so
pub record LogsEventSeeing (sight : EndsSight) (old : Book) (event : Next) (buf : List ℕ)
    (new : Book) :
    Type 0 where
  pub taken : Bool
  pub done : new ≡ unless_over old (after (event_noted event buf sight old.watching) taken old)

-- an event came, and the ends were seen as they are shown
pub record LogsEvent (shows : EndsSight → Type 0) (old : Book) (event : Next) (buf : List ℕ)
    (new : Book) :
    Type 0 where
  pub sight : EndsSight
  pub shown : shows sight
  pub logs : LogsEventSeeing sight old event buf new

-- an action went out
pub record LogsAction (old : Book) (now : ℕ) (action : Output) (new : Book) : Type 0 where
  pub taken : Bool
  pub done : new ≡ unless_over old (after (put now action old.watching) taken old)

-- an action was put out, or the port failed: then nothing went out, and nothing is logged
abbrev pub PutsGone : (has_gone : Bool) → Book → (now : ℕ) → Output → Book → Type 0
PutsGone true old now action new = LogsAction old now action new
PutsGone false old now action new = new ≡ old

-- a number as it is logged: past the greatest of its type it stays there
abbrev pub counted : ℕ → ℕ
counted n = u64_saturate n

abbrev pub taken_in : State → ℕ
taken_in gateway = counted (length (pieces_kept gateway.centre.queue))

-- the queue and the counts were looked at, if that was due
abbrev pub looked_if_due : State → Watching → Watching × Option LogLine
looked_if_due s w =
    if is_look_due w then looked_at (counts_of s) (taken_in s) w else (w, None)

-- Between two steps: what became of the commands of the latest one; and a line of the queue or the
-- counts, or else of what was gathered.
abbrev pub looked : State → Watching → Watching × Option LogLine
looked s w = unless_line (looked_if_due s (judged s w))

pub record LogsLook (old : Book) (gateway : State) (new : Book) : Type 0 where
  pub taken : Bool
  pub done : new ≡ unless_over old (after (looked gateway old.watching) taken old)

-- what has failed is logged, if anything
pub record Fails (old : Book) (failure : Option Failure) (new : Book) : Type 0 where
  pub taken : Bool
  pub done : new ≡ unless_over old (after (failed failure old.watching) taken old)

-- the counts are logged once more
pub record Sums (old : Book) (gateway : State) (new : Book) : Type 0 where
  pub taken : Bool
  pub done : new ≡ unless_over old
      (logged (Some (sum_line (counts_of gateway) (taken_in gateway) old.watching)) taken old)

-- the run is over: what has failed is logged, if anything, and then the counts
pub record Closes (old : Book) (failure : Option Failure) (gateway : State) (new : Book) :
    Type 0 where
  pub between : Book
  pub fails : Fails old failure between
  pub sums : Sums between gateway new

pub record IsLogged (line : Option LogLine) (old new : Book) : Type 0 where
  pub taken : Bool
  pub done : new ≡ logged line taken old

-- each line is handed over, in this order, as long as the log goes on
abbrev pub LogsEach : List LogLine → (old new : Book) → Type 0
LogsEach [] old new = new ≡ old
LogsEach (line ∷ lines) old new =
    (book : Book) × IsLogged (Some line) old book × LogsEach lines book new

-- What became of commands is told, unless nobody looks or nothing did.
abbrev pub TellsUnless : (is_quiet : Bool) → (old new : Book) → Type 0
TellsUnless true old new = new ≡ old
TellsUnless false old new =
    LogsEach old.watching.trail (record old { watching = told old.watching }) new

abbrev pub Tells : (old new : Book) → Type 0
Tells old new =
    TellsUnless ((old.is_over && not old.is_watching) || not (has_trail old.watching)) old new

-- something is logged that no event says
pub record LogsNote (old : Book) (note : Note) (new : Book) : Type 0 where
  pub taken : Bool
  pub done : new ≡ unless_over old (logged (Some (line_of note old.watching)) taken old)

-- the line of what there is to log of the state on the disk
abbrev pub line_of_notice : Option Notice → Watching → Option LogLine
line_of_notice None w = None
line_of_notice (Some notice) w = Some (line_of (note.State notice) w)

-- between two steps this of the state on the disk was logged
pub record LogsNotice (notice : Option Notice) (old new : Book) : Type 0 where
  pub taken : Bool
  pub done : new ≡ unless_over old (logged (line_of_notice notice old.watching) taken old)

-- between two steps: this was logged of the state on the disk, if anything, and then the gateway
-- was looked at, and what became of commands was told
pub record Tends (notice : Option Notice) (old : Book) (gateway : State) (new : Book) : Type 0
  where
    pub between : Book
    pub logs : LogsNotice notice old between
    pub looked_at : Book
    pub looks : LogsLook between gateway looked_at
    pub tells : Tells looked_at new
