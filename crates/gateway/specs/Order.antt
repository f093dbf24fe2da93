-- The order of actions within a step. All of it is this gateway's own profile.
use Rattle.std.specs.Prelude.{◌≡◌, Bool, true, false, List, [], ◌∷◌}
use Rattle.std.specs.List.{list_any}
use Rattle.session.specs.declared.kinds.Close.TheVariants.{Timeout}
use Rattle.gateway.specs.Log.{Log, Went, Output, LineOut, TcpOut, Closed, GapOut}
use Rattle.gateway.specs.Behind.{GoesBehindFrames}

-- the actions of the latest step so far, those since the latest event, the newest first (profile)
abbrev pub step_actions : Log → List Output
step_actions (Went now action ∷ log) = action ∷ step_actions log
step_actions log = []

-- octets to the line are a request (profile)
abbrev pub is_request : Output → Bool
is_request (LineOut octets) = true
is_request action = false

-- the close of a connection, whatever its cause (profile)
abbrev pub is_close : Output → Bool
is_close (Closed cause) = true
is_close action = false

-- the close of a connection because an answer is late, which the timers bring (profile)
abbrev pub is_late : Output → Bool
is_late (Closed Timeout) = true
is_late action = false

-- What follows from the event comes first, then what the timers bring, then the request, then
-- octets to TCP. A gap comes only if the step's timers have closed no connection yet. A gap, a
-- close and a request come only if the step has put out no request yet. Octets to TCP go out before
-- a gap, a close or a request only behind a frame that ends in the event's octets. Octets to TCP,
-- and a close, come only if the step has closed no connection yet (profile).
abbrev pub MayFollow : Log → Output → Type 0
MayFollow log (LineOut octets) =
    (list_any is_request (step_actions log) ≡ false) × GoesBehindFrames log
MayFollow log (TcpOut octets) = list_any is_close (step_actions log) ≡ false
MayFollow log (Closed cause) =
    (list_any is_close (step_actions log) ≡ false)
    × (list_any is_request (step_actions log) ≡ false) × GoesBehindFrames log
MayFollow log (GapOut station session) =
    (list_any is_late (step_actions log) ≡ false)
    × (list_any is_request (step_actions log) ≡ false) × GoesBehindFrames log

-- each action of the log, after those of its step (profile)
abbrev pub KeepsOrder : Log → Type 0
KeepsOrder [] = Unit {0}
KeepsOrder (Went now action ∷ log) = MayFollow log action × KeepsOrder log
KeepsOrder (entry ∷ log) = KeepsOrder log
