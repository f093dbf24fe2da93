-- The latest lines, for who looks at a run (this gateway's own profile, docs/STATUS.md).
use Rattle.std.specs.Prelude.{Bool, true, false, List, [], ◌∷◌, take, if◌then◌else◌}
use Rattle.runlog.specs.declared.note.LogLine.{LogLine}
use Rattle.runlog.specs.declared.note.Note.{Note}
use Rattle.runlog.specs.declared.note.Note.TheVariants as note

-- who looks is told of it: all but the counts, which are shown anyway
abbrev pub is_shown : Note → Bool
is_shown (note.Counts counts) = false
is_shown what = true

-- one more line: of 20 the oldest goes
abbrev pub latest_with : LogLine → List LogLine → List LogLine
latest_with line lines = if is_shown line.note then take 20 (line ∷ lines) else lines

-- these lines behind others, of all that have come so far, the newest first
abbrev pub shown_behind : (lines before : List LogLine) → List LogLine
shown_behind [] before = before
shown_behind (line ∷ lines) before =
    shown_behind lines (if is_shown line.note then line ∷ before else before)
