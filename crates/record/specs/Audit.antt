-- What the audit of a recorded run answers (this gateway's own profile).
use Rattle.std.specs.Prelude.{◌≡◌, ℕ, true, List, ◌++◌, length, count_by, Result, Some, None}
use Rattle.std.specs.Prelude.{MatchResult, Option, if◌then◌else◌}
use Rattle.std.specs.List.{AllByRecursion}
use Rattle.traces.specs.Blocks.{Gives}
use Rattle.gateway.specs.Config.{Settings}
use Rattle.gateway.specs.Log.{Log, LogEntry, events_of}
use Rattle.gateway.specs.Order.{KeepsOrder}
use Rattle.gateway.specs.Setups.{setup_of}
use Rattle.gateway.specs.Traffic.{IsFaithful, HasRested}
use Rattle.delivery.specs.Delivery.{Delivers}
use Rattle.traces.specs.Printed.{IsPrintable, lines_of_log}
use Rattle.traces.specs.Progress.{events_in}
use Rattle.traces.specs.Trace.{first_wrong}
use Rattle.record.specs.Comparing.{Numbers}
use Rattle.record.specs.Lines.{event_lines, first_difference, first_state, is_action, leaves_out}
use Rattle.record.specs.Lines.{record_lines, whole_lines}
use Rattle.record.specs.Opening.{AreState, BeginsBehind, IsNoState, IsOther}
use Rattle.record.specs.declared.audit.Comparison.{Comparison}
use Rattle.record.specs.declared.audit.Comparison.TheVariants.{Same, Differs, LeftOut}
use Rattle.record.specs.declared.audit.RecordFault.{RecordFault}
use Rattle.record.specs.declared.audit.RecordFault.TheVariants.{Line, Unfit, Unread, NoMemory}

-- A run keeps every promise of a gateway with these settings, and so delivers what the outstations
-- reported.
pub record KeepsPromises (settings : Settings) (log : Log) : Type 0 where
  pub faithful : IsFaithful (setup_of settings) log
  pub rests : HasRested (setup_of settings) log
  pub ordered : KeepsOrder log
  pub delivers : Delivers (setup_of settings) log

-- The run over these events, whose lines can be printed. It keeps every promise behind this log if
-- what was said leads there.
pub record IsRunOver (settings : Settings) (said : List ℕ) (past : Log) (script : List LogEntry)
    (log : Log) : Type 0 where
  pub events : events_of log ≡ script
  pub keeps : BeginsBehind settings said past → KeepsPromises settings (log ++ past)
  pub printable : AllByRecursion IsPrintable log

-- the line of this number, counted from 1, says that others are left out there
abbrev pub LeavesOut : List (List ℕ) → (number : ℕ) → Type 0
LeavesOut lines number = (line : List ℕ) × Numbers 1 lines number line × (leaves_out line ≡ true)

-- the same: each whole line of the record is that of the run, and so many are events and actions;
-- else the first line that isn't
abbrev pub IsComparison : (lines : List (List ℕ)) → Log → Comparison → Type 0
IsComparison lines log (Same n m) =
    (first_difference 1 lines (whole_lines (lines_of_log log)) ≡ None)
    × (n ≡ length (events_of log)) × (m ≡ count_by is_action lines)
IsComparison lines log (Differs n) =
    first_difference 1 lines (whole_lines (lines_of_log log)) ≡ Some n
IsComparison lines log (LeftOut n) =
    (first_difference 1 lines (whole_lines (lines_of_log log)) ≡ Some n) × LeavesOut lines n

-- what is told of the first line that isn't the run's
abbrev pub comparison_at : (number : ℕ) → (line : List ℕ) → Comparison
comparison_at number line = if leaves_out line then LeftOut number else Differs number

-- the audit of a text: no line is wrong, and the run is that over the events of its whole lines
pub record IsAudit (settings : Settings) (past : Log) (text : List ℕ) (found : Comparison)
    : Type 0 where
  pub right : first_wrong 1 (event_lines (record_lines text)) ≡ None
  pub log : Log
  pub run : IsRunOver settings (first_state (whole_lines text)) past
      (events_in (event_lines (record_lines text))) log
  pub comparison : IsComparison (record_lines text) log found

-- this whole line is the first that is no event and no action
abbrev pub IsWrongLine : (text : List ℕ) → (line : ℕ) → Type 0
IsWrongLine text line = first_wrong 1 (event_lines (record_lines text)) ≡ Some line

-- so many first lines say state, and no gateway with these settings has it
pub record IsUnfit (settings : Settings) (text : List ℕ) (number : ℕ) : Type 0 where
  pub first : List (List ℕ)
  pub rest : List (List ℕ)
  pub parted : whole_lines text ≡ first ++ rest
  pub state : AreState first
  pub other : IsOther rest
  pub counted : number ≡ length first
  pub none : IsNoState settings (first_state first)

-- a text that a reader may give, and of which this holds
pub record OfGiven (known : Option (List ℕ)) (IsSo : List ℕ → Type 0) : Type 0 where
  pub text : List ℕ
  pub given : Gives known text
  pub so : IsSo text

abbrev pub IsAuditFault : Settings → (known : Option (List ℕ)) → RecordFault → Type 0
IsAuditFault settings known (Line n) = OfGiven known (λ text. IsWrongLine text n)
IsAuditFault settings known (Unfit n) = OfGiven known (λ text. IsUnfit settings text n)
IsAuditFault settings known Unread = Unit {0}
IsAuditFault settings known NoMemory = Unit {0}

-- What an audit answers of a record whose reader will give this, if that is known. This log passed
-- before the record.
abbrev pub IsAudited : Settings → (past : Log) → (known : Option (List ℕ))
    → Result Comparison RecordFault → Type 0
IsAudited settings past known result =
    MatchResult result (λ found. OfGiven known (λ text. IsAudit settings past text found))
    (IsAuditFault settings known)
