-- Which places a dialler of the line asks for, and what its tries come to (this gateway's own
-- profile).
use Rattle.std.specs.Prelude.{◌≡◌, ◌-◌, ◌*◌, ℕ, ◌+◌, ◌<◌, nat_le, List, ◌∷◌}
use Rattle.std.specs.Prelude.{Bool, true, false}
use Rattle.std.specs.Prelude.{Option, Some, None, Result, Ok, Err, MatchResult, option_map}
use Rattle.std.specs.IoError.{error_kind}
use Rattle.std.specs.Time.{instant_nanos}
use Rattle.std.specs.Result.{is_ok}
use Rattle.std.specs.declared.io.Error.{Error}
use Rattle.std.specs.declared.io.ErrorKind.{ErrorKind}
use Rattle.std.specs.declared.io.ErrorKind.TheVariants.{NotConnected, NotFound, TimedOut}
use Rattle.std.specs.declared.net.socket_addr.SocketAddr.{SocketAddr}
use Rattle.std.specs.declared.time.Instant.{Instant}
use Rattle.live.specs.declared.reach.Connecting.{Connecting}
use Rattle.live.specs.declared.reach.ReachedStream.{ReachedStream}
use Rattle.live.specs.declared.reach.Standing.{Standing}
use Rattle.live.specs.declared.reach.Standing.TheVariants.{Through, UnderWay, Broken}
use Rattle.live.specs.declared.redial.Dialled.{Dialled}
use Rattle.live.specs.declared.redial.Dialled.TheVariants.{Reached, Pending, Failed}

-- A call, and what it was answered: a host was looked up; its next address came, or none any more;
-- a connect was begun, to an address or to the socket at a path; or it was waited for, by TCP so
-- many ms at the most; how a stream's connect stands; what the clock shows; a line was made of a
-- stream, and whether it can be used; or so many ms were slept.
pub data ReachStep : Type 0 where
  LookedUp : (host : List ℕ) → Result (Unit {0}) Error → ReachStep
  Came : Option SocketAddr → ReachStep
  Began : SocketAddr → Result ReachedStream Error → ReachStep
  AtPath : (path : List ℕ) → Result ReachedStream Error → ReachStep
  Waited : SocketAddr → (ms : ℕ) → Result ReachedStream Error → ReachStep
  WaitedAt : (path : List ℕ) → Result ReachedStream Error → ReachStep
  Stood : ReachedStream → Standing → ReachStep
  Showed : Result Instant Error → ReachStep
  Opened : ReachedStream → (is_usable : Bool) → ReachStep
  Slept : (ms : ℕ) → ReachStep

-- the calls so far, the newest first, if they are noted
abbrev pub ReachSteps : Type 0
ReachSteps = Option (List ReachStep)

abbrev pub step_noted : ReachStep → ReachSteps → ReachSteps
step_noted step steps = option_map (λ before. step ∷ before) steps

-- No connect to this address goes on for this fault: it couldn't be begun, or when it began can't
-- be told.
pub data FailsAt (address : SocketAddr) (fault : Error) (before after : ReachSteps) : Type 0 where
  Refused : after ≡ step_noted (Began address (Err fault)) before
      → FailsAt address fault before after
  Untimed : (stream : ReachedStream)
      → after ≡ step_noted (Showed (Err fault)) (step_noted (Began address (Ok stream)) before)
      → FailsAt address fault before after

-- A connect to it goes on, since the moment that the clock showed behind its beginning; or none.
abbrev pub ConnectsAt : SocketAddr → (before : ReachSteps) → Result Connecting Error
    → (after : ReachSteps) → Type 0
ConnectsAt address before answer after =
    MatchResult answer (λ connecting. after ≡ step_noted (Showed (Ok connecting.since))
    (step_noted (Began address (Ok connecting.stream)) before))
    (λ fault. FailsAt address fault before after)

-- So many addresses came one after another, and no connect to any of them went on. This was the
-- cause at the last of them; if none came, the one before.
pub data Tries (first : ErrorKind) (before : ReachSteps) : (count : ℕ) → (cause : ErrorKind)
    → ReachSteps → Type 0 where
  NoneYet : Tries first before 0 first before
  OneMore : (count : ℕ) (between after : ReachSteps) (address : SocketAddr) (cause : ErrorKind)
      (fault : Error) → Tries first before count cause between
      → FailsAt address fault (step_noted (Came (Some address)) between) after
      → Tries first before (count + 1) (error_kind fault) after

-- A connect to an address that came goes on; or none did, of all that came, or of 32.
pub data TriesOn {A : Type 0} (answer : Dialled A) (first : ErrorKind) (old : Option Connecting)
    (before : ReachSteps) (new : Option Connecting) (after : ReachSteps) : Type 0 where
  GoesOn : (count : ℕ) (between : ReachSteps) (address : SocketAddr) (cause : ErrorKind)
      (connecting : Connecting) → Tries first before count cause between → count < 32
      → ConnectsAt address (step_noted (Came (Some address)) between) (Ok connecting) after
      → answer ≡ Pending → new ≡ Some connecting → TriesOn answer first old before new after
  NoneLeft : (count : ℕ) (between : ReachSteps) (cause : ErrorKind)
      → Tries first before count cause between → after ≡ step_noted (Came None) between
      → answer ≡ Failed cause → new ≡ old → TriesOn answer first old before new after
  Enough : (cause : ErrorKind) → Tries first before 32 cause after → answer ≡ Failed cause
      → new ≡ old → TriesOn answer first old before new after

-- a line was reached, or this is the fault
abbrev pub IsFault : {A : Type 0} → Result A Error → Error → Type 0
IsFault (Ok line) fault = ⊥
IsFault (Err it) fault = it ≡ fault

-- a try has ended: a line was opened, or this is why not
abbrev pub Ends : {A : Type 0} → Dialled A → Result A Error → Type 0
Ends (Reached stream) (Ok line) = Unit {0}
Ends (Reached stream) (Err fault) = ⊥
Ends Pending line = ⊥
Ends (Failed cause) (Ok line) = ⊥
Ends (Failed cause) (Err fault) = cause ≡ error_kind fault

-- The socket at this path was asked for, and is a line if it answers and can be used.
pub data OpensAt {A : Type 0} (path : List ℕ) (line : Result A Error) (before after : ReachSteps)
    : Type 0 where
  Absent : (fault : Error) → IsFault line fault
      → after ≡ step_noted (AtPath path (Err fault)) before → OpensAt path line before after
  There : (stream : ReachedStream)
      → after
      ≡ step_noted (Opened stream (is_ok line)) (step_noted (AtPath path (Ok stream)) before)
      → OpensAt path line before after

-- A try at the socket of this path has ended so.
pub record DialsAt {A : Type 0} (path : List ℕ) (answer : Dialled A) (before after : ReachSteps)
    : Type 0 where
  pub line : Result A Error
  pub ends : Ends answer line
  pub opens : OpensAt path line before after

-- why none goes on if the host has no address, or isn't known
abbrev pub unfound : Result (Unit {0}) Error → ErrorKind
unfound (Ok found) = NotFound
unfound (Err fault) = error_kind fault

-- A try at this host looks it up, and begins with its first address.
pub record DialsHost {A : Type 0} (host : List ℕ) (answer : Dialled A) (old : Option Connecting)
    (before : ReachSteps) (new : Option Connecting) (after : ReachSteps) : Type 0 where
  pub found : Result (Unit {0}) Error
  pub tries : TriesOn answer (unfound found) old (step_noted (LookedUp host found) before) new after

-- by the clock a connect has gone on for 5 s at the most
abbrev pub is_in_time : (since : Instant) → Result Instant Error → Bool
is_in_time since (Ok now) = nat_le (instant_nanos now - instant_nanos since) (5000 * 1_000_000)
is_in_time since (Err fault) = false

-- A connect that is under way goes on for 5 s at the most. Behind that one to the next address is
-- begun.
pub data GoesOnAsIs {A : Type 0} (connecting : Connecting) (before : ReachSteps)
    (answer : Dialled A) (new : Option Connecting) (after : ReachSteps) : Type 0 where
  InTime : (shown : Result Instant Error) → is_in_time connecting.since shown ≡ true
      → after ≡ step_noted (Showed shown) before → answer ≡ Pending → new ≡ Some connecting
      → GoesOnAsIs connecting before answer new after
  TooLate : (shown : Result Instant Error) → is_in_time connecting.since shown ≡ false
      → TriesOn answer TimedOut None (step_noted (Showed shown) before) new after
      → GoesOnAsIs connecting before answer new after

-- It is asked how the connect that goes on stands. If it came through, its stream is a line, if
-- that can be used. If it broke off, one to the next address is begun.
pub data AsksOn {A : Type 0} (old : Option Connecting) (before : ReachSteps) (answer : Dialled A)
    (new : Option Connecting) (after : ReachSteps) : Type 0 where
  NoConnect : old ≡ None → answer ≡ Failed NotConnected → new ≡ None → after ≡ before
      → AsksOn old before answer new after
  CameThrough : (connecting : Connecting) (line : Result A Error) → old ≡ Some connecting
      → after ≡ step_noted (Opened connecting.stream (is_ok line))
      (step_noted (Stood connecting.stream Through) before)
      → Ends answer line → new ≡ None → AsksOn old before answer new after
  IsUnderWay : (connecting : Connecting) → old ≡ Some connecting
      → GoesOnAsIs connecting (step_noted (Stood connecting.stream UnderWay) before) answer new
      after → AsksOn old before answer new after
  BrokeOff : (connecting : Connecting) (cause : ErrorKind) → old ≡ Some connecting
      → TriesOn answer cause None (step_noted (Stood connecting.stream (Broken cause)) before) new
      after
      → AsksOn old before answer new after

-- So many addresses came one after another, each was waited for 5 s at the most, and none was
-- reached; this was the fault at the last of them, or that the host has none.
pub data WaitsInVain (before : ReachSteps) : (count : ℕ) → (last : Error) → ReachSteps
    → Type 0 where
  NoAddress : (last : Error) → error_kind last ≡ NotFound → WaitsInVain before 0 last before
  OneAddress : (count : ℕ) (between : ReachSteps) (address : SocketAddr) (last fault : Error)
      → WaitsInVain before count last between
      → WaitsInVain before (count + 1) fault
      (step_noted (Waited address 5000 (Err fault))
      (step_noted (Came (Some address)) between))

abbrev pub IsUsable : {A : Type 0} → Result A Error → (is_usable : Bool) → Type 0
IsUsable (Ok line) is_usable = is_usable ≡ true
IsUsable (Err it) is_usable = is_usable ≡ false

-- The socket at this path is connected to, and is a line if it answers and can be used.
pub data ReachesAt {A : Type 0} (path : List ℕ) (answer : Result A Error)
    (before after : ReachSteps) : Type 0 where
  NotThere : (fault : Error) → IsFault answer fault
      → after ≡ step_noted (WaitedAt path (Err fault)) before → ReachesAt path answer before after
  IsThere : (stream : ReachedStream) (is_usable : Bool) → IsUsable answer is_usable
      → after ≡ step_noted (Opened stream is_usable) (step_noted (WaitedAt path (Ok stream)) before)
      → ReachesAt path answer before after

-- The addresses that came are tried in turn. The first that answers is a line if it can be used.
-- Else the answer is the fault at the last of all, or of 32.
pub data ReachesOne {A : Type 0} (answer : Result A Error) (before after : ReachSteps)
    : Type 0 where
  Answers : (count : ℕ) (between : ReachSteps) (address : SocketAddr) (last : Error)
      (stream : ReachedStream) (is_usable : Bool) → WaitsInVain before count last between
      → IsUsable answer is_usable
      → after ≡ step_noted (Opened stream is_usable) (step_noted (Waited address 5000 (Ok stream))
      (step_noted (Came (Some address)) between)) → ReachesOne answer before after
  NoMore : (count : ℕ) (between : ReachSteps) (last : Error)
      → WaitsInVain before count last between → IsFault answer last
      → after ≡ step_noted (Came None) between → ReachesOne answer before after
  AllTried : (last : Error) → WaitsInVain before 32 last after → IsFault answer last
      → ReachesOne answer before after

-- The host is looked up, and its addresses are tried; or the answer is why that failed.
pub data ReachesHost {A : Type 0} (host : List ℕ) (answer : Result A Error)
    (before after : ReachSteps) : Type 0 where
  Unknown : (fault : Error) → IsFault answer fault
      → after ≡ step_noted (LookedUp host (Err fault)) before → ReachesHost host answer before after
  Known : (found : Unit {0})
      → ReachesOne answer (step_noted (LookedUp host (Ok found)) before) after
      → ReachesHost host answer before after
