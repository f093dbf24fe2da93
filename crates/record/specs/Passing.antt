-- How the lines of a record are passed, one after another (this gateway's own profile).
use Rattle.std.specs.Prelude.{◌≡◌, ℕ, ◌+◌, ◌≤◌, true, false, List, [], ◌∷◌, ◌++◌, length, count_by}
use Rattle.std.specs.Prelude.{None, Option, Some, Result, MatchResult}
use Rattle.std.specs.List.{AllByRecursion}
use Rattle.gateway.specs.Log.{LogEntry}
use Rattle.gateway.specs.Ports.{logged_by, FitsBuffer}
use Rattle.gateway.specs.declared.ports.Next.{Next}
use Rattle.gateway.specs.declared.ports.Next.TheVariants.{Done}
use Rattle.traces.specs.Fields.{parts_after}
use Rattle.traces.specs.Progress.{events_in, IsRight, logs_event}
use Rattle.traces.specs.Trace.{first_wrong, is_wrong, lines_of}
use Rattle.traces.specs.declared.reading.TextFault.{TextFault}
use Rattle.traces.specs.declared.reading.TextFault.TheVariants.{Line, NoMemory}
use Rattle.record.specs.Lines.{event_line, event_lines, is_action}
use Rattle.record.specs.declared.audit.passing.LineKind.{LineKind}
use Rattle.record.specs.declared.audit.passing.LineKind.TheVariants as kinds
use Rattle.record.specs.declared.audit.passing.LineCounts.{LineCounts}

-- octets without a line feed
abbrev pub IsOneLine : List ℕ → Type 0
IsOneLine line = lines_of line ≡ line ∷ []

-- what a line logs: an event, which is right; an action; neither, and is right; or this is left
-- open
abbrev pub IsKind : List ℕ → (buf : List ℕ) → LineKind → Type 0
IsKind line buf (kinds.Event next) =
    (is_action line ≡ false) × (logged_by next buf ≡ events_in (event_line line ∷ []))
    × (logs_event next ≡ true) × FitsBuffer next × IsRight (event_line line)
IsKind line buf kinds.Action = is_action line ≡ true
IsKind line buf kinds.Neither =
    (is_action line ≡ false) × (events_in (event_line line ∷ []) ≡ []) × IsRight (event_line line)
IsKind line buf kinds.Wrong = Unit {0}

-- Of these lines some were passed, which logged these events, and those were counted; the others
-- are left.
pub record Passes (news : List LogEntry) (lines : List (List ℕ)) (before : LineCounts)
    (left : List (List ℕ)) (after : LineCounts) : Type 0 where
  pub logged : news ++ events_in (event_lines left) ≡ events_in (event_lines lines)
  pub right : AllByRecursion IsRight (event_lines left) → AllByRecursion IsRight (event_lines lines)
  pub counted : after.lines + length left ≡ before.lines + length lines
  pub events : after.events ≡ before.events + length news
  pub actions : after.actions + count_by is_action left ≡ before.actions + count_by is_action lines

-- a line logs one event or action at most
abbrev pub IsTally : LineCounts → Type 0
IsTally tally = tally.events + tally.actions ≤ tally.lines

-- An answer gives the first event of these lines, if it gives one.
pub record IsNext (lines : List (List ℕ)) (before : LineCounts) (next : Next) (buf : List ℕ)
    (left : Option (List ℕ)) (after : LineCounts) : Type 0 where
  pub passes : Passes (logged_by next buf) lines before (parts_after 10 left) after
  pub done : next ≡ Done → left ≡ None
  pub fits : FitsBuffer next
  pub few : IsTally after

-- the first wrong line has this number, counted from that of the first of these lines
abbrev pub IsWrongAmong : (first : ℕ) → List (List ℕ) → TextFault → Type 0
IsWrongAmong first lines (Line n) = first_wrong first (event_lines lines) ≡ Some n
IsWrongAmong first lines NoMemory = Unit {0}

abbrev pub IsLineFault : List ℕ → TextFault → Type 0
IsLineFault line (Line n) = is_wrong (event_line line) ≡ true
IsLineFault line NoMemory = Unit {0}

abbrev pub IsLineJudged : List ℕ → Result (Unit {0}) TextFault → Type 0
IsLineJudged line result =
    MatchResult result (λ done. is_wrong (event_line line) ≡ false) (IsLineFault line)
