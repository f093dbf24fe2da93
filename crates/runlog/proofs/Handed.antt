-- Lines that are handed to where they go.
use Rattle.std.proofs.Common.{◌≡◌, Bool, true, false, if◌then◌else◌, List, ◌∷◌, Some}
use Rattle.std.proofs.Common.{ap, ◌∙◌}
use Rattle.runlog.specs.Logging.{Book, handed_over, kept, logged}
use Rattle.runlog.specs.Watching.{heard}
use Rattle.runlog.specs.declared.note.LogLine.{LogLine}

-- the book of which those who look have heard of a line
abbrev pub heard_of : LogLine → Book → Book
heard_of line b = record b { watching = heard line b.watching }

logged_on : (line : LogLine) (taken : Bool) (b : Book) → b.is_over ≡ false
    → logged (Some line) taken b ≡ handed_over line taken (heard_of line b)
logged_on line taken b goes_on =
    ap (λ o. if o then heard_of line b else handed_over line taken (heard_of line b)) goes_on

pub handed_on : (line : LogLine) (taken : Bool) (b : Book) (before : List LogLine)
    → b.is_over ≡ false → b.handed ≡ Some before
    → (logged (Some line) taken b).handed ≡ Some (line ∷ before)
handed_on line taken b before goes_on is =
    ap (λ (x : Book). x.handed) (logged_on line taken b goes_on) ∙ ap (kept true line) is

pub over_on : (line : LogLine) (taken : Bool) (b : Book) → b.is_over ≡ true
    → logged (Some line) taken b ≡ heard_of line b
over_on line taken b over =
    ap (λ o. if o then heard_of line b else handed_over line taken (heard_of line b)) over
