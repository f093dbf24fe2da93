-- How a run ends.
use Rattle.std.specs.Prelude.{◌≡◌, ℕ, ◌+◌, ◌≤◌, Bool, if◌then◌else◌, List, length, Option}
use Rattle.std.specs.Prelude.{option_map}
use Rattle.gateway.specs.Log.{Log, LogEntry, events_of}
use Rattle.gateway.specs.declared.runs.End.{End}
use Rattle.gateway.specs.declared.runs.End.TheVariants.{Finished, Turns, Device}

-- what holds if the device has not failed
abbrev pub UnlessDevice : End → Type 0 → Type 0
UnlessDevice Finished P = P
UnlessDevice Turns P = P
UnlessDevice Device P = Unit {0}

-- how many failures of the device an end reports
abbrev pub faults_at : End → ℕ
faults_at Finished = 0
faults_at Turns = 0
faults_at Device = 1

-- the events that a port has given, the oldest first
abbrev pub events_logged : Option Log → Option (List LogEntry)
events_logged logged = option_map events_of logged

-- if the log is given, so many more events have come
abbrev pub MoreEvents : ℕ → Option Log → Option Log → Type 0
MoreEvents n old new = option_map length (events_logged new)
    ≡ option_map (λ events. length events + n) (events_logged old)

-- or at most so many
abbrev pub AtMostEvents : (most : ℕ) → Option Log → Option Log → Type 0
AtMostEvents most old new = (n : ℕ) × (n ≤ most) × MoreEvents n old new

-- how many failures of the device a part of a step reports
abbrev pub faults_unless : (went : Bool) → ℕ
faults_unless went = if went then 0 else 1

-- What a part of a step leaves of its port, which gives its log, what is fixed of it, and how often
-- its device failed: no event has come, what is fixed stays, and the device has failed so many
-- times more.
pub record Puts {S F : Type 0} (log : S → Option Log) (fixed : S → F) (failed : S →
    ℕ) (old new : S) (faults : ℕ) : Type 0 where
  pub events : events_logged (log new) ≡ events_logged (log old)
  pub script : fixed new ≡ fixed old
  pub cause : failed new ≡ failed old + faults
