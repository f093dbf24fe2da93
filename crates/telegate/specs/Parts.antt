-- A run over a text that is read part by part.
use Rattle.std.specs.Prelude.{◌≡◌, ◌⊎◌, ℕ, Bool, true, false, not, List, [], ◌∷◌, ◌++◌, Option}
use Rattle.std.specs.Prelude.{Some, None}
use Rattle.std.specs.Prelude.{Result, MatchResult}
use Rattle.std.specs.Io.KnownBytes.{Keeps}
use Rattle.gateway.specs.Accounts.{IsAccounted}
use Rattle.gateway.specs.Agrees.{Follows}
use Rattle.gateway.specs.Log.{Log, LogEntry, events_of}
use Rattle.gateway.specs.Reports.{Setup}
use Rattle.gateway.specs.State.{State}
use Rattle.gateway.specs.Traffic.{IsFaithful, HasRested}
use Rattle.sim.specs.Runs.{IsBegun}
use Rattle.traces.specs.Progress.{Part, Standing, events_in, script_of}
use Rattle.traces.specs.Trace.{lines_of, first_wrong}
use Rattle.telegate.specs.Printed.{IsPoured}
use Rattle.telegate.specs.Records.{is_record, lines_read, script_read}
use Rattle.telegate.specs.Source.{Gives}
use Rattle.telegate.specs.declared.fault.Fault.{Fault}
use Rattle.telegate.specs.declared.fault.Fault.TheVariants.{Trace, Unread, NoMemory}

-- a text can't be read on, or memory was refused
abbrev pub IsWant : Fault → Type 0
IsWant Unread = Unit {0}
IsWant NoMemory = Unit {0}
IsWant _ = ⊥

-- Blocks

-- A part of a text is what is read of one of its blocks, behind which more of it comes, or nothing
-- does.
pub record IsPartRead (as_record : Bool) (lines : List ℕ) (is_over : Bool) (part : List ℕ)
    : Type 0 where
  pub before_more : is_over ≡ false → (more : List ℕ)
      → lines_read as_record (lines ++ 10 ∷ more) ≡ lines_of part ++ lines_read as_record more
  pub last_events : is_over ≡ true
      → events_in (lines_read as_record lines) ≡ events_in (lines_of part)
  pub last_wrong : is_over ≡ true → (first : ℕ)
      → first_wrong first (lines_read as_record lines) ≡ first_wrong first (lines_of part)

-- Judging

-- whether a text is a record
pub record IsRecordFound (known : Option (List ℕ)) (found : Bool) : Type 0 where
  pub octets : List ℕ
  pub given : Gives known octets
  pub is : found ≡ is_record octets

-- no line of a text is wrong
pub record IsRightText (as_record : Bool) (known : Option (List ℕ)) : Type 0 where
  pub octets : List ℕ
  pub given : Gives known octets
  pub right : first_wrong 1 (lines_read as_record octets) ≡ None

-- this line is the first wrong one
pub record IsWrongText (as_record : Bool) (known : Option (List ℕ)) (line : ℕ) : Type 0 where
  pub octets : List ℕ
  pub given : Gives known octets
  pub wrong : first_wrong 1 (lines_read as_record octets) ≡ Some line

-- the same of some lines, of which the first has this number
abbrev pub IsLineFault : (first : ℕ) → List ℕ → Fault → Type 0
IsLineFault first text (Trace n) = first_wrong first (lines_of text) ≡ Some n
IsLineFault first text NoMemory = Unit {0}
IsLineFault first text _ = ⊥

abbrev pub IsJudgedFault : (as_record : Bool) → Option (List ℕ) → Fault → Type 0
IsJudgedFault as_record known (Trace n) = IsWrongText as_record known n
IsJudgedFault as_record known fault = IsWant fault

abbrev pub IsJudged : (as_record : Bool) → Option (List ℕ) → Result ℕ Fault → Type 0
IsJudged as_record known result =
    MatchResult result (λ number. IsRightText as_record known) (IsJudgedFault as_record known)

-- Running

-- a part behind a run that stands so
abbrev pub part_behind : Standing → List ℕ → Part
part_behind s text = record { text = text; is_first = not s.started; earlier = s.log }

-- what a run leaves: its log keeps every promise, and its gateway agrees with that
pub record HasDone (p : Setup) (state : State) (log : Log) : Type 0 where
  pub faithful : IsFaithful p log
  pub rests : HasRested p log
  pub follows : Follows p state (Some log)
  pub accounts : IsAccounted p state log

-- the same of a run that goes on from here, if it can
abbrev pub GoesOn : (began : State) → (before : Log) → (ended : State) → (after : Log) → Type 0
GoesOn began before ended after =
    (p : Setup) → Follows p began (Some before) → HasRested p before → HasDone p ended after

abbrev pub StaysFaithful : (began : State) → (before after : Log) → Type 0
StaysFaithful began before after =
    (p : Setup) → Follows p began (Some before) → HasRested p before → IsFaithful p after

-- nothing failed, and all lines were taken off the page
pub record IsClearPause (s : Standing) : Type 0 where
  pub healthy : s.failed ≡ 0
  pub poured : s.poured ≡ s.log

-- a part was run
pub record IsPartRun (s : Standing) (text : List ℕ) (began ended : State) (after : Standing)
    : Type 0 where
  pub events : events_of after.log ≡ script_of (part_behind s text)
  pub right : first_wrong 1 (lines_of text) ≡ None
  pub goes : GoesOn began s.log ended after.log
  pub started : after.started ≡ true
  pub clear : IsClearPause after

-- A run stopped in a part, and a beginning of its text was printed. (How a log is written as a
-- text, the first argument says, here and below.)
pub record IsPartStopped (IsTextBy : Log → List ℕ → Type 0) (s : Standing) (text : List ℕ)
    (began : State) (old new : Option (List ℕ)) : Type 0 where
  pub log : Log
  pub rest : List LogEntry
  pub events : events_of log ++ rest ≡ script_of (part_behind s text)
  pub faithful : StaysFaithful began s.log log
  pub lines : List ℕ
  pub written : IsTextBy log lines
  pub begun : IsBegun old new lines

-- A run over a whole text, of which no line is wrong. All lines of its log were printed, or a
-- beginning of them if the output failed.
pub record IsPartsRun (IsTextBy : Log → List ℕ → Type 0) (as_record : Bool)
    (known : Option (List ℕ)) (began ended : State) (old new : Option (List ℕ)) (is_whole : Bool)
    : Type 0 where
  pub octets : List ℕ
  pub given : Gives known octets
  pub right : first_wrong 1 (lines_read as_record octets) ≡ None
  pub log : Log
  pub events : events_of log ≡ script_read as_record octets
  pub goes : GoesOn began [] ended log
  pub lines : List ℕ
  pub written : IsTextBy log lines
  pub poured : IsPoured is_whole old new lines

-- a run over a text stopped before its end, and a beginning of its lines was printed; or before
-- its beginning, and nothing was
pub record IsStoppedOver (IsTextBy : Log → List ℕ → Type 0) (as_record : Bool)
    (known : Option (List ℕ)) (began : State) (old new : Option (List ℕ)) : Type 0 where
  pub octets : List ℕ
  pub given : Gives known octets
  pub log : Log
  pub rest : List LogEntry
  pub events : events_of log ++ rest ≡ script_read as_record octets
  pub faithful : StaysFaithful began [] log
  pub lines : List ℕ
  pub written : IsTextBy log lines
  pub begun : IsBegun old new lines

abbrev pub RunsOver : (IsTextBy : Log → List ℕ → Type 0) → (as_record : Bool) → Option (List ℕ)
    → (began ended : State) → (old new : Option (List ℕ)) → Result Bool Fault → Type 0
RunsOver IsTextBy as_record known began ended old new result =
    MatchResult result (IsPartsRun IsTextBy as_record known began ended old new)
    (λ fault. IsWant fault × (Keeps old new ⊎ IsStoppedOver IsTextBy as_record known began old new))
