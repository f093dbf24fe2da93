-- What passes a run that is watched, the newest first; and what an operator knows by it of the
-- connections, of their lines and of the wall clock (docs/LOG.md, docs/STATUS.md).
use Rattle.std.specs.Prelude.{◌≢◌, ℕ, ◌+◌, List, [], ◌∷◌}
use Rattle.std.specs.Prelude.{Option, if◌then◌else◌}
use Rattle.std.specs.declared.net.ip_addr.IpAddr.{IpAddr}
use Rattle.session.specs.declared.kinds.Close.{Close}
use Rattle.session.specs.declared.kinds.Close.TheVariants as close
use Rattle.gateway.specs.Log.{Output}
use Rattle.gateway.specs.State.{State}
use Rattle.gateway.specs.declared.ports.Next.{Next}
use Rattle.gateway.specs.declared.ports.Next.TheVariants as next
use Rattle.live.specs.declared.ends.CutCause.{CutCause}
use Rattle.live.specs.declared.watched.EndsSight.{EndsSight}
use Rattle.runlog.specs.Logging.{looked}
use Rattle.runlog.specs.Watching.{Watching, event_noted, put}
use Rattle.runlog.specs.declared.note.LogLine.{LogLine}

-- an event whose octets are the front of these, with a sight of the ends; an action that goes out
-- at this moment; or a look at the gateway between two steps
pub data Passed : Type 0 where
  Came : Next → (octets : List ℕ) → EndsSight → Passed
  Went : (now : ℕ) → Output → Passed
  Between : State → Passed

abbrev pub passed : Passed → Watching → Watching × Option LogLine
passed (Came event octets s) w = event_noted event octets s w
passed (Went now action) w = put now action w
passed (Between gateway) w = looked gateway w

-- what is watched after all this
abbrev pub watched : Watching → List Passed → Watching
watched start [] = start
watched start (p ∷ ps) = (passed p (watched start ps)).0

-- ---- Connections

-- What a connection has of it: it is opened by somebody, if that is known, or cut, or the gateway
-- closes it; data transfer is started or stopped (IEC 60870-5-104, 5.3); or nothing.
pub data Step : Type 0 where
  Opens : (now : ℕ) → Option IpAddr → Step
  Cuts : (now : ℕ) → CutCause → Step
  Closes : (now : ℕ) → Close → Step
  Starts : (now : ℕ) → Step
  Stops : (now : ℕ) → Step
  Nothing : Step
