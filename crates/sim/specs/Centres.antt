-- What the control centre of a simulated line knows (IEC 60870-5-104, 5.1 and 5.3): whether its
-- connection is open, and its frames on it.
use Rattle.std.specs.Prelude.{ℕ, ◌+◌, ◌%◌, ◌==◌, Bool, true, false, if◌then◌else◌, List, [], ◌∷◌}
use Rattle.std.specs.Prelude.{slice_index}
use Rattle.apci.specs.Spelling.{spelling}
use Rattle.apci.specs.declared.apdu.Apdu.TheVariants.{I, S, U}
use Rattle.apci.specs.declared.apdu.Uf.TheVariants.{StartAct}
use Rattle.gateway.specs.Log.{Log, Came, Went, Input, Opened, CutOff, TcpIn, TcpOut, Closed}
use Rattle.sim.specs.declared.centre.Centre.{Centre}

-- without a connection
abbrev pub shut : Centre
shut = record { is_open = false; is_started = false; sent = 0; received = 0; acknowledged = 0 }

-- a connection on which nothing has gone yet
abbrev pub opened : Centre
opened = record { is_open = true; is_started = false; sent = 0; received = 0; acknowledged = 0 }

-- the first of the four control octets of an APDU
abbrev pub first_control : List ℕ → ℕ
first_control octets = slice_index octets 2

-- an I format: bit 0 of its first control octet is clear
abbrev pub is_data : List ℕ → Bool
is_data octets = first_control octets % 2 == 0

-- An APDU has gone to the gateway: STARTDT act starts data transfer, an I or an S format
-- acknowledges all that was received.
abbrev pub after_sending : List ℕ → Centre → Centre
after_sending octets c =
    if first_control octets == 0x07 then record c { is_started = true }
    else if is_data octets then record c { sent = c.sent + 1; acknowledged = c.received }
    else record c { acknowledged = c.received }

-- an APDU has come from the gateway
abbrev pub after_receiving : List ℕ → Centre → Centre
after_receiving octets c = if is_data octets then record c { received = c.received + 1 } else c

-- what an event to the gateway makes of it
abbrev pub after_event : Input → Centre → Centre
after_event Opened c = opened
after_event CutOff c = shut
after_event (TcpIn octets) c = after_sending octets c
after_event event c = c

-- what it knows after this log
abbrev pub centre_of : Log → Centre
centre_of [] = shut
centre_of (Came now event ∷ log) = after_event event (centre_of log)
centre_of (Went now (TcpOut octets) ∷ log) = after_receiving octets (centre_of log)
centre_of (Went now (Closed cause) ∷ log) = shut
centre_of (Went now action ∷ log) = centre_of log

-- STARTDT act
abbrev pub start_apdu : List ℕ
start_apdu = spelling (U StartAct)

-- an S frame that acknowledges all that was received
abbrev pub acknowledging_apdu : Centre → List ℕ
acknowledging_apdu c = spelling (S (c.received % 32768))

-- an I frame with the next N(S) that acknowledges all that was received
abbrev pub data_apdu : Centre → List ℕ → List ℕ
data_apdu c asdu = spelling (I (c.sent % 32768) (c.received % 32768) (record { items = asdu }))
