-- What a text of lines logs (this gateway's own profile).
use Rattle.gateway.specs.Log.{Log}
use Rattle.std.specs.List.{AllByRecursion}
use Rattle.std.specs.Prelude.{◌≡◌, ℕ, List, reverse, Option, IfSome}
use Rattle.traces.specs.Printed.{IsPrintable, entries_in, lines_of_log}
use Rattle.traces.specs.Progress.{all_logged}

-- what a text logs, the newest first
abbrev pub log_in : List ℕ → Log
log_in text = reverse (all_logged (entries_in text))

-- a text is the lines of the log that it gives
pub record IsText (text : List ℕ) : Type 0 where
  pub lines : lines_of_log (log_in text) ≡ text
  pub printable : AllByRecursion IsPrintable (log_in text)

-- if a text is given, it is the lines of a log
abbrev pub IsWritten : Option (List ℕ) → Type 0
IsWritten logged = IfSome logged IsText

-- lines of events and actions that can be printed
pub record AreLines (lines : List ℕ) : Type 0 where
  pub news : Log
  pub printable : AllByRecursion IsPrintable news
  pub are : lines ≡ lines_of_log news
