-- What is stored of a run, as its log.
use Rattle.std.specs.Prelude.{◌≡◌, ℕ, ◌≤◌, ◌==◌, List, [], ◌∷◌, length, map, if◌then◌else◌}
use Rattle.session.specs.declared.kinds.Close.{Close}
use Rattle.session.specs.declared.kinds.Close.TheVariants.{Grammar, SendNumber, ReceiveNumber}
use Rattle.session.specs.declared.kinds.Close.TheVariants.{Stopped, Timeout, OwnAnswers, Replaced}
use Rattle.gateway.specs.Log.{Log, LogEntry, Came, Went, LineIn, Opened, TcpIn, CutOff, Ticked}
use Rattle.gateway.specs.Log.{WallIs, LineOut, TcpOut, Closed, GapOut}
use Rattle.gateway.specs.Ports.{logged_by, FitsBuffer, faults_of}
use Rattle.gateway.specs.declared.ports.Next.{Next}
use Rattle.gateway.specs.declared.ports.Next.TheVariants.{Done}
use Rattle.gateway.specs.declared.entries.Entry.{Entry}
use Rattle.gateway.specs.declared.entries.Entry.TheVariants as entries
use Rattle.gateway.specs.declared.entries.StoredEntry.{StoredEntry}
use Rattle.gateway.specs.declared.entries.StoredEntry.TheVariants as logged

-- its octets fit a port's buffer
abbrev pub FitsPort : Entry → Type 0
FitsPort (entries.Line now octets) = length octets.items ≤ 1024
FitsPort (entries.Bytes now octets) = length octets.items ≤ 1024
FitsPort entry = Unit {0}

abbrev pub event_of : Entry → LogEntry
event_of (entries.Line now octets) = Came now (LineIn octets.items)
event_of (entries.Open now) = Came now Opened
event_of (entries.Bytes now octets) = Came now (TcpIn octets.items)
event_of (entries.Cut now) = Came now CutOff
event_of (entries.Tick now) = Came now Ticked
event_of (entries.Wall now number) = Came now (WallIs number)

-- an answer of a port gives this entry
pub record IsAnnounced (entry : Entry) (next : Next) (buf : List ℕ) : Type 0 where
  pub logged : logged_by next buf ≡ event_of entry ∷ []
  pub fits : FitsBuffer next
  pub healthy : faults_of next ≡ 0
  pub some : next ≡ Done → ⊥

-- the events of a run over these entries, the oldest first: a tick at moment 0, and then these
abbrev pub script_of : List Entry → List LogEntry
script_of entries = Came 0 Ticked ∷ map event_of entries

-- the numbers of the causes that close a connection (profile)
abbrev pub number_of : Close → ℕ
number_of Grammar = 1
number_of SendNumber = 2
number_of ReceiveNumber = 3
number_of Stopped = 4
number_of Timeout = 5
number_of OwnAnswers = 6
number_of Replaced = 7

-- the cause with this number
abbrev pub cause_of : ℕ → Close
cause_of n =
    if n == 1 then Grammar else if n == 2 then SendNumber else if n == 3 then ReceiveNumber else
    if n == 4 then Stopped else if n == 5 then Timeout else if n == 6 then OwnAnswers else Replaced

abbrev pub logged_of : StoredEntry → LogEntry
logged_of (logged.Came entry) = event_of entry
logged_of (logged.Line now octets) = Went now (LineOut octets.items)
logged_of (logged.Tcp now octets) = Went now (TcpOut octets.items)
logged_of (logged.Close now cause) = Went now (Closed cause)
logged_of (logged.Gap now station session) = Went now (GapOut station session)

-- the log that is stored, before what was there
abbrev pub stored_log : List StoredEntry → Log → Log
stored_log [] log = log
stored_log (x ∷ xs) log = stored_log xs (logged_of x ∷ log)

-- the log that is stored: the newest first, while the list has the oldest first
abbrev pub log_of : List StoredEntry → Log
log_of xs = stored_log xs []
