-- The connection as segments: what is sent at each deed (RFC 9293), and whose octets they carry.
use Rattle.std.specs.Prelude.{ℕ, ◌+◌, ◌%◌, ◌^◌, ◌==◌, Bool, true, false, if◌then◌else◌, List}
use Rattle.std.specs.Prelude.{[], ◌∷◌, ◌++◌, length}
use Rattle.std.specs.List.{flat_map}
use Rattle.record.specs.declared.capture.connection.Connection.{Connection}
use Rattle.record.specs.declared.capture.segment.TcpSegment.{TcpSegment}
use Rattle.record.specs.Blocks.{block}
use Rattle.record.specs.Segments.{packet}

-- a segment with its data, and a comment on it
pub record Sent : Type 0 where
  pub segment : TcpSegment
  pub payload : List ℕ
  pub comment : List ℕ

-- its block, on the interface of the connection
unfoldable pub sent_block : (micros : ℕ) → Sent → List ℕ
sent_block micros s = block 0 micros (packet s.segment s.payload) s.comment

abbrev pub sent_blocks : (micros : ℕ) → List Sent → List ℕ
sent_blocks micros sent = flat_map (sent_block micros) sent

-- ---- Segments

-- a segment of one end: its own number, and the other's
abbrev pub segment_of : Connection → (is_up : Bool) → (flags : ℕ) → TcpSegment
segment_of c is_up flags = record {
  is_up = is_up;
  port = c.port;
  sequence = if is_up then c.up else c.down;
  acknowledged = if is_up then c.down else c.up;
  flags = flags;
}

-- one without data
abbrev pub bare : Connection → (is_up : Bool) → (flags : ℕ) → Sent
bare c is_up flags =
    record { segment = segment_of c is_up flags; payload = []; comment = [] }

-- an end has sent so many octets; SYN and FIN count as one
abbrev pub counted : Connection → (is_up : Bool) → ℕ → Connection
counted c is_up n =
    if is_up then record c { up = (c.up + n) % 2 ^ 32 }
    else record c { down = (c.down + n) % 2 ^ 32 }

-- ---- Deeds

-- Each connection has a port of its own, from 49152 on, and both ends count from 0.
abbrev pub called : Connection → Connection
called c = record {
  is_open = true;
  port = if c.port == 65535 then 49152 else c.port + 1;
  up = 0;
  down = 0;
}

abbrev pub arrived : Connection → Connection
arrived c = record (called c) { down = 1 }

abbrev pub opened : Connection → Connection
opened c = record (called c) { up = 1; down = 1 }

-- SYN (2) of the control centre, SYN and ACK (18) of the gateway, ACK (16)
abbrev pub opening : Connection → List Sent
opening c = bare (called c) false 2 ∷ bare (arrived c) true 18 ∷ bare (opened c) false 16 ∷ []

-- PSH and ACK (24), with the octets
abbrev pub carried_by : Connection → (is_up : Bool) → List ℕ → Sent
carried_by c is_up octets =
    record { segment = segment_of c is_up 24; payload = octets; comment = [] }

-- FIN and ACK (17) of each end, and the last ACK
abbrev pub gone_up : Connection → Connection
gone_up c = record (counted c true 1) { is_open = false }

abbrev pub closed : Connection → Connection
closed c = counted (gone_up c) false 1

abbrev pub closing : Connection → (comment : List ℕ) → List Sent
closing c comment =
    record { segment = segment_of c true 17; payload = []; comment = comment }
    ∷ bare (gone_up c) false 17 ∷ bare (closed c) true 16 ∷ []

-- RST and ACK (20) of the control centre
abbrev pub cutting : Connection → List Sent
cutting c = bare c false 20 ∷ []

-- what happens to the connection
pub data Deed : Type 0 where
  Opens : Deed
  Carries : (is_up : Bool) → (octets : List ℕ) → Deed
  Closes : (comment : List ℕ) → Deed
  Cuts : Deed

-- what is sent; a connection that nobody opened is opened before it carries octets
abbrev pub sent_at : Connection → Deed → List Sent
sent_at c Opens = opening c
sent_at c (Carries is_up octets) =
    if c.is_open then carried_by c is_up octets ∷ []
    else opening c ++ carried_by (opened c) is_up octets ∷ []
sent_at c (Closes comment) = if c.is_open then closing c comment else []
sent_at c Cuts = if c.is_open then cutting c else []

abbrev pub after : Connection → Deed → Connection
after c Opens = opened c
after c (Carries is_up octets) =
    counted (if c.is_open then c else opened c) is_up (length octets)
after c (Closes comment) = if c.is_open then closed c else c
after c Cuts = record c { is_open = false }

abbrev pub after_deeds : Connection → List Deed → Connection
after_deeds c [] = c
after_deeds c (deed ∷ deeds) = after_deeds (after c deed) deeds

-- all that is sent in a run of deeds
abbrev pub sent_in : Connection → List Deed → List Sent
sent_in c [] = []
sent_in c (deed ∷ deeds) = sent_at c deed ++ sent_in (after c deed) deeds

-- ---- Octets
