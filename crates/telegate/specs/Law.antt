-- Notes that are logged one behind another.
use Rattle.std.specs.Prelude.{◌≡◌, List, [], ◌∷◌}
use Rattle.runlog.specs.Logging.{Book, LogsNote}
use Rattle.runlog.specs.declared.note.Note.{Note}

-- these notes were logged, one behind another, and nothing else
abbrev pub LogsAll : List Note → (old new : Book) → Type 0
LogsAll [] old new = new ≡ old
LogsAll (note ∷ notes) old new =
    (book : Book) × LogsNote old note book × LogsAll notes book new
