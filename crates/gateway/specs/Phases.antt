-- How far a step is.
use Rattle.std.specs.Prelude.{◌≡◌, ℕ, ◌+◌, ◌<◌, Bool, true, false, List, [], ◌∷◌, ◌++◌, length}
use Rattle.std.specs.Prelude.{Option, Some, None}
use Rattle.link.specs.Primary.{Outstanding}
use Rattle.gateway.specs.Serial.{next_request}
use Rattle.gateway.specs.Log.{Log, TcpIn, Restarted, Came, Went, TcpOut}
use Rattle.command.specs.History.{History}
use Rattle.gateway.specs.Connections.{present, received_before}
use Rattle.gateway.specs.Behind.{GoesBehindFrames}
use Rattle.gateway.specs.Works.{Works, has_lacked_place, settled_works, done_works}

-- nothing has come yet, or not since a restart; octets of the connection are being taken; a frame
-- of them was taken, and
-- what follows goes out; the event is taken; an own answer of it found no place; the timers are
-- done; the request is asked for
pub data Phase : Type 0 where
  Fresh : Phase
  Taking : Phase
  Judged : Phase
  Idle : Phase
  Crowded : Phase
  Timed : Phase
  Asked : Phase

-- the log ends with octets of the connection, or with frames that went out since
abbrev pub IsTaking : Log → Type 0
IsTaking (Came now (TcpIn octets) ∷ log) = Unit {0}
IsTaking (Went now (TcpOut octets) ∷ log) = IsTaking log
IsTaking log = ⊥

-- nothing has come yet, or not since the gateway was started again
abbrev pub IsFresh : Log → Type 0
IsFresh [] = Unit {0}
IsFresh (Came now Restarted ∷ log) = Unit {0}
IsFresh log = ⊥

-- Until the request is asked for, octets went to TCP only behind frames of the event.
abbrev pub IsPhase : Phase → Log → Type 0
IsPhase Fresh log = IsFresh log
IsPhase Taking log = IsTaking log × GoesBehindFrames log
IsPhase Judged log = IsTaking log × GoesBehindFrames log
IsPhase Asked log = Unit {0}
IsPhase phase log = GoesBehindFrames log

-- The log shows the works before the step's timers and request; so far they have become these.
abbrev pub works_in : Phase → (at : ℕ) → (room : Bool) → Works → Works
works_in Fresh at room w = w
works_in Taking at room w = w
works_in Judged at room w = w
works_in Idle at room w = w
works_in Crowded at room w = w
works_in Timed at room w = settled_works at w
works_in Asked at room w = done_works at room w

-- a request is outstanding
abbrev pub IsOut : Option Outstanding → Type 0
IsOut None = ⊥
IsOut (Some o) = Unit {0}

-- Until the request is asked for it is due. Then it is out, or there was none that might go out;
-- and no gap is left to be reported.
abbrev pub IsAsked : Phase → (at : ℕ) → (room : Bool) → Works → Type 0
IsAsked Asked at room w = (w.is_due ≡ true → next_request room (settled_works at w).serial ≡ None)
    × (w.is_due ≡ false → IsOut w.serial.line.outstanding) × (w.serial.gap ≡ None)
IsAsked Fresh at room w = (w.is_due ≡ false) × (w.serial.gap ≡ None)
IsAsked phase at room w = w.is_due ≡ true

-- how far it is between two steps
abbrev pub resting : Log → Phase
resting [] = Fresh
resting (Came now Restarted ∷ log) = Fresh
resting (entry ∷ log) = Asked

-- But unless one has just found none, each own answer of the open connection found a place.
abbrev pub IsPlaced : Phase → Log → History → Type 0
IsPlaced Crowded log h = Unit {0}
IsPlaced phase log h = (present log).is_open ≡ true → has_lacked_place h ≡ false

-- what octets of the line, and what a frame leave, by whether their own answers found places
abbrev pub after_line : Bool → Phase
after_line true = Idle
after_line false = Crowded

abbrev pub after_frame : Bool → Phase
after_frame true = Judged
after_frame false = Crowded

-- fewer octets than the latest event brought are left
abbrev pub IsPast : Log → (left : ℕ) → Type 0
IsPast log left = length (received_before log) + left < length (present log).received

-- What is left of the octets received: if a frame was taken fewer than came, and if the event is
-- taken none. What a close drops may be anything.
abbrev pub IsLeftIn : Phase → Log → (so_far unjudged : List ℕ) → Type 0
IsLeftIn Taking log so_far unjudged = Unit {0}
IsLeftIn Crowded log so_far unjudged = Unit {0}
IsLeftIn Judged log so_far unjudged = IsPast log (length (so_far ++ unjudged))
IsLeftIn phase log so_far unjudged = unjudged ≡ []

-- Frames go out behind a frame of the event, and once the request is asked for.
abbrev pub IsFlushing : Phase → Type 0
IsFlushing Judged = Unit {0}
IsFlushing Asked = Unit {0}
IsFlushing phase = ⊥
