-- The text of a trace (this gateway's own profile): lines ended by line feeds, each an event, empty
-- or a comment.
use Rattle.std.specs.Prelude.{◌≡◌, ℕ, ◌+◌, ◌==◌, ◌&&◌, not, Bool, true, if◌then◌else◌, List, []}
use Rattle.std.specs.Prelude.{◌∷◌, map, Option, Some, None, Result, Vec, MatchResult}
use Rattle.std.specs.List.{slice_split, filter_map}
use Rattle.std.specs.Option.{is_none}
use Rattle.std.specs.declared.alloc.Global.{Global}
use Rattle.gateway.specs.declared.entries.Entry.{Entry}
use Rattle.traces.specs.declared.reading.TextFault.{TextFault}
use Rattle.traces.specs.declared.reading.TextFault.TheVariants.{Line, NoMemory}
use Rattle.traces.specs.Event.{Event, event_of, event_in}

-- the lines of a text, which line feeds (10) end; what follows the last line feed is a line too
abbrev pub lines_of : List ℕ → List (List ℕ)
lines_of text = slice_split (λ b. b == 10) text

-- empty lines and comments, which begin with `#` (35)
abbrev pub is_skipped : List ℕ → Bool
is_skipped [] = true
is_skipped (b ∷ _) = b == 35

-- the event that a line logs; an empty line and a comment log none
abbrev pub logged : List ℕ → Option Event
logged line = if is_skipped line then None else event_in line

-- a line that logs nothing, though it is neither empty nor a comment
abbrev pub is_wrong : List ℕ → Bool
is_wrong line = not (is_skipped line) && is_none (event_in line)

-- the number of the first wrong line, if the lines are counted from n
abbrev pub first_wrong : ℕ → List (List ℕ) → Option ℕ
first_wrong n [] = None
first_wrong n (l ∷ ls) = if is_wrong l then Some n else first_wrong (n + 1) ls

-- no line is wrong, and the entries are the events that the lines log, in their order
abbrev pub AreEntriesOf : List (List ℕ) → List Entry → Type 0
AreEntriesOf lines entries =
    (first_wrong 1 lines ≡ None) × (map event_of entries ≡ filter_map logged lines)

-- the number is that of the first wrong line, counted from 1 over all lines
abbrev pub IsFaultOf : List (List ℕ) → TextFault → Type 0
IsFaultOf lines (Line n) = first_wrong 1 lines ≡ Some n
IsFaultOf lines NoMemory = Unit {0}

-- what the reading of a trace answers
abbrev pub IsTraceOf : List ℕ → Result (Vec Entry Global) TextFault → Type 0
IsTraceOf text result =
    MatchResult result (λ v. AreEntriesOf (lines_of text) v.items) (IsFaultOf (lines_of text))
