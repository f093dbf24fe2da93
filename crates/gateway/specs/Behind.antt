-- What goes to TCP before a step's gap, close or request (profile): all that a frame which came
-- makes due goes out behind it, before the next one is taken.
use Rattle.std.specs.Prelude.{◌≡◌, ◌<◌, ℕ, List, [], ◌∷◌, ◌++◌, length}
use Rattle.apci.specs.declared.apdu.Apdu.{Apdu}
use Rattle.gateway.specs.Log.{Log, Came, Went, Output, TcpOut}
use Rattle.gateway.specs.Streams.{spelled, AllFit}
use Rattle.gateway.specs.Connections.{present, received_before}

-- a whole frame ends in the octets of the latest event
pub record EndsFrame (log : Log) : Type 0 where
  pub frames : List Apdu
  pub rest : List ℕ
  pub fit : AllFit frames
  pub joined : (present log).received ≡ spelled frames ++ rest
  pub ends : length (received_before log) < length (spelled frames)

-- what went to TCP in the step so far went out behind such a frame
abbrev pub GoesBehindFrames : Log → Type 0
GoesBehindFrames [] = Unit {0}
GoesBehindFrames (Came now event ∷ log) = Unit {0}
GoesBehindFrames (Went now (TcpOut octets) ∷ log) = EndsFrame log × GoesBehindFrames log
GoesBehindFrames (Went now action ∷ log) = GoesBehindFrames log

-- A gap, a close and a request go out before the octets to TCP that no such frame brought.
abbrev pub IsEarly : Log → Output → Type 0
IsEarly log (TcpOut octets) = Unit {0}
IsEarly log action = GoesBehindFrames log
