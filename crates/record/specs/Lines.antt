-- The text of a recorded run, line by line (this gateway's own profile).
use Rattle.std.specs.Prelude.{ℕ, ◌+◌, ◌-◌, ◌==◌, Bool, false, if◌then◌else◌, List, [], ◌∷◌, ◌++◌}
use Rattle.std.specs.Prelude.{codes, drop, length, map, take, nat_eq, Option, Some, None}
use Rattle.std.specs.List.{slice_split, list_any, starts_with}
use Rattle.std.specs.Str.{bytes_eq}

-- the lines that a line feed ends, without it; what stands behind the last one was cut short
abbrev pub whole_lines : List ℕ → List (List ℕ)
whole_lines text =
    let lines : List (List ℕ) = slice_split (λ b. b == 10) text in take (length lines - 1) lines

-- the second field of a line is `>`
abbrev pub is_marked : List (List ℕ) → Bool
is_marked [] = false
is_marked (moment ∷ []) = false
is_marked (moment ∷ second ∷ fields) = bytes_eq second (codes ">")

-- A line with `!` was cut short, since the process that wrote it came to an end: who goes on with
-- the record ends it so.
abbrev pub is_cut : List ℕ → Bool
is_cut line = list_any (λ b. b == 33) line

-- a line logs an action, and no event
abbrev pub is_action : List ℕ → Bool
is_action line = if is_cut line then false else is_marked (slice_split (λ b. b == 32) line)

-- a line of an event; an empty one in the place of an action's, and of one that was cut short
abbrev pub event_line : List ℕ → List ℕ
event_line line = if is_action line then [] else if is_cut line then [] else line

abbrev pub event_lines : List (List ℕ) → List (List ℕ)
event_lines lines = map event_line lines

abbrev pub is_first : (line : List ℕ) → (run : List (List ℕ)) → Bool
is_first line [] = false
is_first line (other ∷ run) = bytes_eq line other

abbrev pub behind_first : List (List ℕ) → List (List ℕ)
behind_first [] = []
behind_first (line ∷ lines) = lines

-- The number of the first of these lines that isn't that of the run, if they are counted from n;
-- one that was cut short is passed over.
abbrev pub first_difference : ℕ → (lines run : List (List ℕ)) → Option ℕ
first_difference n [] run = None
first_difference n (line ∷ lines) run =
    if is_cut line then first_difference (n + 1) lines run
    else if is_first line run then first_difference (n + 1) lines (behind_first run)
    else Some n

-- a line that says that others are left out here
abbrev pub leaves_out : List ℕ → Bool
leaves_out line = starts_with nat_eq line (codes "# left out: ")

-- ---- The state of a run that goes on

-- a line that says state
abbrev pub says_state : List ℕ → Bool
says_state line = starts_with nat_eq line (codes "# state: ")

-- what the first lines say that say state, each with a line feed
abbrev pub first_state : List (List ℕ) → List ℕ
first_state [] = []
first_state (line ∷ lines) =
    if says_state line then drop 9 line ++ 10 ∷ first_state lines else []

-- these lines, but the first ones that say state stand as those that were cut short
abbrev pub without_state : List (List ℕ) → List (List ℕ)
without_state [] = []
without_state (line ∷ lines) =
    if says_state line then codes "!" ∷ without_state lines else line ∷ lines

-- the whole lines of a record so
abbrev pub record_lines : List ℕ → List (List ℕ)
record_lines text = without_state (whole_lines text)
