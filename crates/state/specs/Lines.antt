-- The lines of events in a log, and their room there (profile).
use Rattle.std.specs.Prelude.{◌≡◌, ℕ, ◌+◌, ◌*◌, ◌≤◌, nat_lt, Bool, true}
use Rattle.std.specs.List.{AllByRecursion}
use Rattle.gateway.specs.Log.{Log, LogEntry, last_moment}
use Rattle.gateway.specs.declared.ports.Next.{Next}
use Rattle.gateway.specs.declared.ports.Next.TheVariants as answers
use Rattle.traces.specs.Event.{Event}
use Rattle.traces.specs.Printed.{FitsTrace}
use Rattle.traces.specs.Progress.{came}
use Rattle.state.specs.declared.loss.StoreFault.{StoreFault}
use Rattle.state.specs.declared.loss.StoreFault.TheVariants as faults

-- an event that the line of a trace can hold
abbrev pub IsWritable : LogEntry → Type 0
IsWritable event = (logged : Event) × FitsTrace logged × (event ≡ came logged)

-- it can hold the event of a port's answer, whose octets fit the buffer
abbrev pub FitsLine : Next → Type 0
FitsLine (answers.Line now len) = (now ≤ last_moment) × (1 ≤ len)
FitsLine (answers.Open now) = now ≤ last_moment
FitsLine (answers.Bytes now len) = (now ≤ last_moment) × (1 ≤ len)
FitsLine (answers.Cut now) = now ≤ last_moment
FitsLine (answers.Tick now) = now ≤ last_moment
FitsLine (answers.Wall now number) = (now ≤ last_moment) × (number ≤ last_moment)
FitsLine answers.Done = Unit {0}
FitsLine answers.Fault = Unit {0}

-- How many octets the line of an event has at most: a moment of 15 digits, a letter, 1,024 octets
-- in hexadecimal digits, two spaces, and its end.
abbrev pub longest_line : ℕ
longest_line = 15 + 1 + 2 * 1024 + 2 + 1

-- how many octets the seal of a write has
abbrev pub seal_octets : ℕ
seal_octets = 27

-- how many octets of events and seals a log has before a new one is due
abbrev pub most_octets : ℕ
most_octets = 3900000

-- they are more than that
abbrev pub is_renewal_due : (events : ℕ) → Bool
is_renewal_due events = nat_lt most_octets events

-- A store fails so when it is to append the lines of these events, if the log has so many octets of
-- events. It fails for want of room only if a new log is due, and for an event only if no line can
-- hold it. Else the disk fails, or memory is refused.
abbrev pub IsRefusedBy : StoreFault → (events : Log) → (octets : ℕ) → Type 0
IsRefusedBy faults.Unwritable events octets = AllByRecursion IsWritable events → ⊥
IsRefusedBy faults.Full events octets = is_renewal_due octets ≡ true
IsRefusedBy faults.Failed events octets = Unit {0}
