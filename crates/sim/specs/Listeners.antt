-- Whom a listener at the place of a line refused (profile).
use Rattle.std.specs.Prelude.{None}
use Rattle.live.specs.AllowLists.{Refusals, nobody}
use Rattle.sim.specs.declared.stations.listeners.LineListener.{LineListener}
use Rattle.sim.specs.declared.stations.listeners.LineListener.TheVariants.{Tcp, Unix}

-- By TCP it says so itself; by a Unix socket everybody is on this machine, and nobody is counted.
abbrev pub refusals_of : {R : Type 0} → LineListener R → Refusals
refusals_of (Tcp listener) = record { peers = None; said = listener.refused }
refusals_of (Unix listener) = record { peers = None; said = nobody }
