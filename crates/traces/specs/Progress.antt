-- What a port over the text of a trace is to its callers. Its log is stored nowhere: only proofs
-- know it.
use Rattle.std.specs.Prelude.{◌≡◌, ℕ, ◌+◌, Bool, true, false, ◌&&◌, List, [], ◌∷◌, ◌++◌, map}
use Rattle.std.specs.Prelude.{length, Option, Some, None, Result, MatchResult}
use Rattle.std.specs.List.{filter_map, AllByRecursion}
use Rattle.std.specs.Option.{is_none}
use Rattle.gateway.specs.Log.{Log, LogEntry, Came, LineIn, Opened, TcpIn, CutOff, Ticked, WallIs}
use Rattle.gateway.specs.Log.{events_of}
use Rattle.gateway.specs.Ports.{logged_by, FitsBuffer}
use Rattle.gateway.specs.declared.ports.Next.{Next}
use Rattle.gateway.specs.declared.ports.Next.TheVariants as answers
use Rattle.traces.specs.Event.{Event, line, opening, received, cut, tick, wall}
use Rattle.traces.specs.Fields.{parts_after}
use Rattle.traces.specs.Trace.{lines_of, logged, is_wrong, first_wrong}
use Rattle.traces.specs.declared.reading.TextFault.{TextFault}
use Rattle.traces.specs.declared.reading.TextFault.TheVariants.{Line, NoMemory}

-- an event of a trace, as it stands in a log
abbrev pub came : Event → LogEntry
came (line now octets) = Came now (LineIn octets)
came (opening now) = Came now Opened
came (received now octets) = Came now (TcpIn octets)
came (cut now) = Came now CutOff
came (tick now) = Came now Ticked
came (wall now number) = Came now (WallIs number)

-- the events that lines log
abbrev pub events_in : List (List ℕ) → List LogEntry
events_in lines = map came (filter_map logged lines)

-- the events of a run over this text, the oldest first: a tick at moment 0, and then these
abbrev pub script_in : List ℕ → List LogEntry
script_in text = Came 0 Ticked ∷ events_in (lines_of text)

-- a line that is skipped or an event
abbrev pub IsRight : List ℕ → Type 0
IsRight octets = is_wrong octets ≡ false

-- A part of a text, which is whole lines: whether the tick at moment 0 comes before it, and the log
-- before it.
pub record Part : Type 0 where
  pub text : List ℕ
  pub is_first : Bool
  pub earlier : Log

-- the events of a part itself
abbrev pub events_of_part : (is_first : Bool) → (text : List ℕ) → List LogEntry
events_of_part true text = script_in text
events_of_part false text = events_in (lines_of text)

-- the events of a run up to the end of a part
abbrev pub script_of : Part → List LogEntry
script_of part = events_of part.earlier ++ events_of_part part.is_first part.text

-- how far a run over a part of a text has come: the lines of it that are still to come, whether the
-- tick at moment 0 came, the log so far, the part of it whose lines were taken off the page, the
-- lines that stand on the page, and how often the port failed
pub record Progress : Type 0 where
  pub part : Part
  pub left : Option (List ℕ)
  pub started : Bool
  pub log : Log
  pub poured : Log
  pub page : List ℕ
  pub failed : ℕ

-- the same between two parts
pub record Standing : Type 0 where
  pub started : Bool
  pub log : Log
  pub poured : Log
  pub page : List ℕ
  pub failed : ℕ

-- before the first part, when the tick at moment 0 is still to come, or isn't to be given
abbrev pub first_standing : (started : Bool) → Standing
first_standing started = record {
  started = started;
  log = [];
  poured = [];
  page = [];
  failed = 0;
}

abbrev pub all_logged : Option (List LogEntry) → List LogEntry
all_logged None = []
all_logged (Some entries) = entries

-- the events that are still to come
abbrev pub events_left : (started : Bool) → (text : List ℕ) → (left : Option (List ℕ))
    → List LogEntry
events_left true text left = events_in (parts_after 10 left)
events_left false text left = script_in text

abbrev pub coming_in : Progress → List LogEntry
coming_in p = events_left p.started p.part.text p.left

abbrev pub is_through : Progress → Bool
is_through p = p.started && is_none p.left

-- What always holds of a port over a part: the events that came and those that are still to come
-- are those of the run up to the part's end.
pub record IsProgress (p : Progress) : Type 0 where
  pub whole : events_of p.log ++ coming_in p ≡ script_of p.part
  pub right : AllByRecursion IsRight (parts_after 10 p.left)
      → first_wrong 1 (lines_of p.part.text) ≡ None
  pub first : p.started ≡ false → p.left ≡ Some p.part.text

-- whether an answer gives an event
abbrev pub logs_event : Next → Bool
logs_event answers.Done = false
logs_event answers.Fault = false
logs_event next = true

-- An answer gives the first event of these lines, if there is one and no wrong line before it, and
-- these are left. Then none of the others is wrong.
pub record IsFirst (lines : List (List ℕ)) (left : Option (List ℕ)) (next : Next)
    (buf : List ℕ) : Type 0 where
  pub logged : logs_event next ≡ true
      → logged_by next buf ++ events_in (parts_after 10 left) ≡ events_in lines
  pub none : logs_event next ≡ false → events_in (parts_after 10 left) ≡ events_in lines
  pub done : next ≡ answers.Done → left ≡ None
  pub right : AllByRecursion IsRight (parts_after 10 left) → AllByRecursion IsRight lines
  pub fits : FitsBuffer next

-- no line is wrong, and this is the number of the line behind them, if the first has this number
abbrev pub AreRight : (first : ℕ) → List (List ℕ) → (next : ℕ) → Type 0
AreRight first lines next = (first_wrong first lines ≡ None) × (next ≡ first + length lines)

-- the first wrong line has this number
abbrev pub IsWrongOf : (first : ℕ) → List (List ℕ) → TextFault → Type 0
IsWrongOf first lines (Line n) = first_wrong first lines ≡ Some n
IsWrongOf first lines NoMemory = Unit {0}

-- what the judgement of a part of a text answers, whose first line has this number
abbrev pub IsJudgement : (first : ℕ) → List ℕ → Result ℕ TextFault → Type 0
IsJudgement first text result =
    MatchResult result (AreRight first (lines_of text)) (IsWrongOf first (lines_of text))
