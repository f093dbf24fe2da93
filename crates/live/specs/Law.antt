-- Words of the laws (this gateway's own profile).
use Rattle.std.specs.Prelude.{◌≡◌, ℕ, ◌+◌, ◌-◌, ◌<◌, ◌≤◌, true, false, List, [], ◌∷◌, ◌++◌}
use Rattle.std.specs.Prelude.{take, ◌⊎◌, Bool, Option, Some, None, option_map, is_some}
use Rattle.std.specs.declared.net.ip_addr.IpAddr.{IpAddr}
use Rattle.live.specs.Ends.{LiveEnds, Peer}
use Rattle.live.specs.AllowLists.{Allows}
use Rattle.live.specs.OctetStreams.{Happening, StreamHistory, WasGone, Wrote, noted}
use Rattle.live.specs.Timing.{Moments}
use Rattle.live.specs.Streams.{ends_frame}
use Rattle.live.specs.declared.timing.Timing.{Timing}
use Rattle.live.specs.declared.timing.WrittenRequest.{WrittenRequest}
use Rattle.live.specs.declared.allow_list.AllowList.{AllowList}
use Rattle.gateway.specs.Log.{Output, LineOut, TcpOut, Closed, GapOut}
use Rattle.gateway.specs.declared.ports.Next.{Next}
use Rattle.gateway.specs.declared.ports.Next.TheVariants as next

-- this holds of the event's moment, if it has one
abbrev pub AtMoment : Next → (ℕ → Type 0) → Type 0
AtMoment (next.Line now len) Holds = Holds now
AtMoment (next.Open now) Holds = Holds now
AtMoment (next.Bytes now len) Holds = Holds now
AtMoment (next.Cut now) Holds = Holds now
AtMoment (next.Tick now) Holds = Holds now
AtMoment (next.Wall now number) Holds = Holds now
AtMoment next.Done Holds = Unit {0}
AtMoment next.Fault Holds = Unit {0}

-- this holds of the moment of octets that a control centre sent, if the event is such
abbrev pub AtBytes : Next → (ℕ → Type 0) → Type 0
AtBytes (next.Line now len) Holds = Unit {0}
AtBytes (next.Open now) Holds = Unit {0}
AtBytes (next.Bytes now len) Holds = Holds now
AtBytes (next.Cut now) Holds = Unit {0}
AtBytes (next.Tick now) Holds = Unit {0}
AtBytes (next.Wall now number) Holds = Unit {0}
AtBytes next.Done Holds = Unit {0}
AtBytes next.Fault Holds = Unit {0}

-- this holds of what the clock gave last, if it notes that
abbrev pub AtClock : Moments → (ℕ → Type 0) → Type 0
AtClock None Holds = Unit {0}
AtClock (Some []) Holds = Unit {0}
AtClock (Some (now ∷ before)) Holds = Holds now

-- this holds of what the clock gave before it gave the newest moment, if it notes that
abbrev pub AtBegun : Moments → (ℕ → Type 0) → Type 0
AtBegun None Holds = Unit {0}
AtBegun (Some (now ∷ (begun ∷ before))) Holds = Holds begun
AtBegun _ Holds = Unit {0}

-- a connection is open, and its address is allowed
abbrev pub IsOfAllowedPeer : AllowList → Option Peer → Type 0
IsOfAllowedPeer allow_list None = ⊥
IsOfAllowedPeer allow_list (Some peer) = Allows allow_list peer.address

-- who is at the other end of the connection
abbrev pub peer_of : LiveEnds → Option IpAddr
peer_of ends = option_map (λ (p : Peer). p.address) ends.connection

-- If a connection is opened its address is allowed, and if one is cut none is open. Any other event
-- leaves the one that was, or none.
abbrev pub KeepsOut : LiveEnds → Next → LiveEnds → Type 0
KeepsOut old (next.Open now) new = IsOfAllowedPeer old.allow_list new.connection
KeepsOut old (next.Cut now) new = new.connection ≡ None
KeepsOut old (next.Line now len) new = peer_of new ≡ peer_of old
KeepsOut old (next.Bytes now len) new = peer_of new ≡ peer_of old
KeepsOut old (next.Tick now) new = peer_of new ≡ peer_of old
KeepsOut old (next.Wall now number) new = peer_of new ≡ peer_of old
KeepsOut old next.Done new = peer_of new ≡ peer_of old
KeepsOut old next.Fault new = peer_of new ≡ peer_of old

-- The moments that the clock gave for an event: `begun`, when the last round of looks began,
-- `quiet`, when each before it did, the newest first, and `now`, behind the last one.
pub record SomeRounds (before after : List ℕ) (Holds : ℕ → List ℕ → ℕ → Type 0) : Type 0 where
  pub begun : ℕ
  pub quiet : List ℕ
  pub now : ℕ
  pub moments : after ≡ now ∷ (begun ∷ (quiet ++ before))
  pub holds : Holds begun quiet now

-- this holds of the moments that the clock gave for an event, if it notes them
abbrev pub AtRounds : (before after : Moments) → (ℕ → List ℕ → ℕ → Type 0) → Type 0
AtRounds None after Holds = Unit {0}
AtRounds (Some before) None Holds = ⊥
AtRounds (Some before) (Some after) Holds = SomeRounds before after Holds

-- when the first round began
abbrev pub first_of : (begun : ℕ) → (quiet : List ℕ) → ℕ
first_of begun [] = begun
first_of begun (earlier ∷ quiet) = first_of earlier quiet

-- The exchange of the latest request would be over by now, but the line hasn't been looked at for
-- answer_ms since the request was written: this is the last moment at which it isn't over.
abbrev pub IsEve : Timing → Option WrittenRequest → (moment now : ℕ) → Type 0
IsEve t None moment now = ⊥
IsEve t (Some r) moment now =
    (t.looked - r.written < t.answer_ms) × (r.moment + t.answer_ms ≤ now)
    × (moment + 1 ≡ r.moment + t.answer_ms)

-- it is one of these
abbrev pub IsOneOf : List ℕ → ℕ → Type 0
IsOneOf [] moment = ⊥
IsOneOf (first ∷ moments) moment = (moment ≡ first) ⊎ IsOneOf moments moment

-- the action is no request
abbrev pub AsksNothing : Output → Type 0
AsksNothing (LineOut octets) = ⊥
AsksNothing (TcpOut octets) = Unit {0}
AsksNothing (Closed cause) = Unit {0}
AsksNothing (GapOut station session) = Unit {0}

-- the event brings octets of the line that end as a frame does
abbrev pub is_frame : Next → (buf : List ℕ) → Bool
is_frame (next.Line now len) buf = ends_frame (take len buf)
is_frame event buf = false

-- the event is a cut
abbrev pub is_cut : Next → Bool
is_cut (next.Cut now) = true
is_cut (next.Line now len) = false
is_cut (next.Open now) = false
is_cut (next.Bytes now len) = false
is_cut (next.Tick now) = false
is_cut (next.Wall now number) = false
is_cut next.Done = false
is_cut next.Fault = false

-- whether the stream of the connection notes what happens at it, if one is open
abbrev pub notes_of : Option Peer → Option Bool
notes_of connection = option_map (λ (p : Peer). is_some p.stream) connection

-- These octets were put on the open connection, whose stream didn't take them all.
abbrev pub IsLost : (before : Option Peer) → Output → (now : Option Peer) → Type 0
IsLost (Some peer) (TcpOut octets) now =
    now ≡ Some (record peer { stream = noted peer.stream (Wrote octets false) })
IsLost connection action now = ⊥

-- There was such a connection, and the last look at its stream found it gone.
abbrev pub IsFoundGone : (notes : Option Bool) → (left : Option StreamHistory) → Type 0
IsFoundGone None left = ⊥
IsFoundGone (Some false) left = Unit {0}
IsFoundGone (Some true) left =
    (before : List Happening) × (left ≡ Some (Some (WasGone ∷ before)))
