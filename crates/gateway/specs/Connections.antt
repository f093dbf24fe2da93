-- The connections of a log (IEC 60870-5-104, 5; which event begins and ends one is this gateway's
-- profile).
use Rattle.std.specs.Prelude.{◌≡◌, ℕ, Bool, true, false, if◌then◌else◌, List, [], ◌∷◌, ◌++◌, length}
use Rattle.std.specs.Prelude.{Option, Some, None}
use Rattle.apci.specs.declared.apdu.Apdu.{Apdu}
use Rattle.apci.specs.Spelling.{spelling, Fits}
use Rattle.apci.specs.Reading.{IsMore}
use Rattle.session.specs.declared.kinds.Close.{Close}
use Rattle.session.specs.declared.kinds.Close.TheVariants.{Grammar, OwnAnswers, Replaced}
use Rattle.gateway.specs.Log.{Log, Opened, TcpIn, CutOff, Restarted, TcpOut, Closed, Came, Went}
use Rattle.gateway.specs.Streams.{spelled, AllFit, AreFrames, IsRefused}
use Rattle.gateway.specs.Frames.{Connection, data_frames, fault_of}

-- a connection's octets: those handed to TCP, and those received
pub record Channel : Type 0 where
  pub is_open : Bool
  pub sent : List ℕ
  pub received : List ℕ
  -- it was closed for want of a place for an own answer
  pub lacked_place : Bool

-- when there is no connection
abbrev pub no_channel : Channel
no_channel = record { is_open = false; sent = []; received = []; lacked_place = false }

abbrev pub new_channel : Channel
new_channel = record { is_open = true; sent = []; received = []; lacked_place = false }

-- octets of no connection count for nothing
abbrev pub receiving : Channel → List ℕ → Channel
receiving c octets =
    if c.is_open then record {
      is_open = true;
      sent = c.sent;
      received = c.received ++ octets;
      lacked_place = c.lacked_place;
    } else c

abbrev pub sending : Channel → List ℕ → Channel
sending c octets = record {
  is_open = c.is_open;
  sent = c.sent ++ octets;
  received = c.received;
  lacked_place = c.lacked_place;
}

-- the causes 1 to 6 end the connection of their step, and 7 the one before it, which the new one
-- has ended
abbrev pub ends : Close → Bool
ends Replaced = false
ends cause = true

-- the connection that is open, if any
abbrev pub present : Log → Channel
present [] = no_channel
present (Came now Opened ∷ log) = new_channel
present (Came now CutOff ∷ log) = no_channel
present (Came now Restarted ∷ log) = no_channel
present (Came now (TcpIn octets) ∷ log) = receiving (present log) octets
present (Went now (TcpOut octets) ∷ log) = sending (present log) octets
present (Went now (Closed cause) ∷ log) = if ends cause then no_channel else present log
present (entry ∷ log) = present log

-- the octets that the open connection had received before the latest event
abbrev pub received_before : Log → List ℕ
received_before [] = []
received_before (Came now event ∷ log) = (present log).received
received_before (Went now action ∷ log) = received_before log

-- an `Open` has ended the connection that was open, and its close is due
abbrev pub is_replaced : Log → Bool
is_replaced (Came now Opened ∷ log) = (present log).is_open
is_replaced log = false

-- a connection joins those that are over
abbrev pub over : Channel → List Channel → List Channel
over c past = if c.is_open then c ∷ past else past

-- the gateway closes it with this cause
abbrev pub closed_by : Close → Channel → Channel
closed_by OwnAnswers c =
    record { is_open = c.is_open; sent = c.sent; received = c.received; lacked_place = true }
closed_by cause c = c

-- the connections that are over, the newest first
abbrev pub past : Log → List Channel
past [] = []
past (Came now Opened ∷ log) = over (present log) (past log)
past (Came now CutOff ∷ log) = over (present log) (past log)
past (Came now Restarted ∷ log) = over (present log) (past log)
past (Went now (Closed cause) ∷ log) =
    if ends cause then over (closed_by cause (present log)) (past log) else past log
past (entry ∷ log) = past log

-- each of the frames came without fault
abbrev pub Passes : ℕ → List Apdu → Type 0
Passes sent [] = Unit {0}
Passes sent (frame ∷ older) = (fault_of sent older frame ≡ None) × Passes sent older

-- the octets begin with a frame that has this fault
pub record BeginsWithFault (sent : ℕ) (received : List Apdu) (cause : Close)
    (rest : List ℕ) : Type 0 where
  pub frame : Apdu
  pub more : List ℕ
  pub fits : Fits frame
  pub joined : rest ≡ spelling frame ++ more
  pub fault : fault_of sent received frame ≡ Some cause

-- What stands behind the frames received: the beginning of a frame, or what closes the connection.
-- If that is an own answer without a place, what is left of the octets was dropped. Then the log's
-- one course shows which frames came (the law `one_course`).
abbrev pub IsBehind : Bool → ℕ → List Apdu → Option Close → List ℕ → Type 0
IsBehind lacked_place sent received None rest = IsMore rest
IsBehind lacked_place sent received (Some Grammar) rest = IsRefused rest
IsBehind lacked_place sent received (Some OwnAnswers) rest = lacked_place ≡ true
IsBehind lacked_place sent received (Some cause) rest = BeginsWithFault sent received cause rest

-- The frames of a connection are those that the grammar finds, one after another, in its joined
-- octets. In the octets handed to TCP there is nothing else. In those received they go up to what
-- closes the connection, if anything does. (The law `one_reading`: there are no other frames, and
-- no other cause. Only for want of a place for an own answer the octets alone don't show them.)
pub record IsConnection (octets : Channel) (c : Connection) (fault : Option Close) : Type 0 where
  pub put : List Apdu
  pub handed : AreFrames octets.sent put
  pub sent : c.sent_frames ≡ data_frames put
  pub rest : List ℕ
  pub joined : octets.received ≡ spelled c.received_frames ++ rest
  pub fit : AllFit c.received_frames
  pub pass : Passes (length c.sent_frames) c.received_frames
  pub behind : IsBehind octets.lacked_place (length c.sent_frames) c.received_frames fault rest

-- the frames of each
abbrev pub AreConnections : List Channel → List Connection → Type 0
AreConnections [] [] = Unit {0}
AreConnections (octets ∷ past) (c ∷ before) = (fault : Option Close) × IsConnection octets c fault
    × AreConnections past before
AreConnections _ _ = ⊥

-- The connection's frames so far: of what it received perhaps only the first ones, if a step is not
-- done.
pub record IsBegun (octets : Channel) (c : Connection) : Type 0 where
  pub put : List Apdu
  pub handed : AreFrames octets.sent put
  pub sent : c.sent_frames ≡ data_frames put
  pub rest : List ℕ
  pub joined : octets.received ≡ spelled c.received_frames ++ rest
  pub fit : AllFit c.received_frames
  pub pass : Passes (length c.sent_frames) c.received_frames
