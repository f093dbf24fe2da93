-- What an event that is given, an action that is put out, and an entry that is stored, are in the
-- log (profile): what their names say.
use Rattle.std.specs.Prelude.{◌≡◌}
use Rattle.gateway.specs.Log.{Input, LineIn, Opened, TcpIn, CutOff, Ticked, WallIs}
use Rattle.gateway.specs.Log.{Output, LineOut, TcpOut, Closed, GapOut, LogEntry, Came, Went}
use Rattle.gateway.specs.declared.entries.Entry.{Entry}
use Rattle.gateway.specs.declared.entries.Entry.TheVariants as entries
use Rattle.gateway.specs.declared.entries.StoredEntry.{StoredEntry}
use Rattle.gateway.specs.declared.entries.StoredEntry.TheVariants as stored
use Rattle.gateway.specs.declared.ports.Event.{Event}
use Rattle.gateway.specs.declared.ports.Event.TheVariants as events
use Rattle.gateway.specs.declared.ports.Action.{Action}
use Rattle.gateway.specs.declared.ports.Action.TheVariants as actions

-- an event comes in as what its name says, with its octets, or its number of the wall clock
abbrev pub ComesAs : Event → Input → Type 0
ComesAs (events.Line octets) input = input ≡ LineIn octets.now
ComesAs events.Open input = input ≡ Opened
ComesAs (events.Bytes octets) input = input ≡ TcpIn octets.now
ComesAs events.Cut input = input ≡ CutOff
ComesAs events.Tick input = input ≡ Ticked
ComesAs (events.Wall number) input = input ≡ WallIs number

-- an action goes out as what its name says: its octets go to the line or to TCP, a close has its
-- cause, and a gap its station and its session
abbrev pub GoesAs : Action → Output → Type 0
GoesAs (actions.Line octets) output = output ≡ LineOut octets.now
GoesAs (actions.Tcp octets) output = output ≡ TcpOut octets.now
GoesAs (actions.Close cause) output = output ≡ Closed cause
GoesAs (actions.Gap station session) output = output ≡ GapOut station session

-- an event that is stored is what its name says, at its moment, with its octets or its number
abbrev pub IsEvent : Entry → LogEntry → Type 0
IsEvent (entries.Line now octets) logged = logged ≡ Came now (LineIn octets.items)
IsEvent (entries.Open now) logged = logged ≡ Came now Opened
IsEvent (entries.Bytes now octets) logged = logged ≡ Came now (TcpIn octets.items)
IsEvent (entries.Cut now) logged = logged ≡ Came now CutOff
IsEvent (entries.Tick now) logged = logged ≡ Came now Ticked
IsEvent (entries.Wall now number) logged = logged ≡ Came now (WallIs number)

-- and so is an action that is stored, with its octets, its cause, or its station and its session
abbrev pub IsStored : StoredEntry → LogEntry → Type 0
IsStored (stored.Came entry) logged = IsEvent entry logged
IsStored (stored.Line now octets) logged = logged ≡ Went now (LineOut octets.items)
IsStored (stored.Tcp now octets) logged = logged ≡ Went now (TcpOut octets.items)
IsStored (stored.Close now cause) logged = logged ≡ Went now (Closed cause)
IsStored (stored.Gap now station session) logged = logged ≡ Went now (GapOut station session)
