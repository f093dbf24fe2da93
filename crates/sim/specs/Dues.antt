-- What the script and the control centre give at a call, before the line has its turn.
use Rattle.std.specs.Prelude.{ℕ, List, Option}
use Rattle.gateway.specs.Log.{Input, Opened, CutOff, TcpIn, WallIs}
use Rattle.sim.specs.declared.due.Due.{Due}
use Rattle.sim.specs.declared.due.Due.TheVariants as due
use Rattle.sim.specs.Calls.{line_event}

-- the event that it stands for, if this waits
abbrev pub due_input : Due → Option (List ℕ) → Input
due_input (due.Wall number) waiting = WallIs number
due_input due.Cut waiting = CutOff
due_input due.Open waiting = Opened
due_input (due.Apdu octets) waiting = TcpIn octets.items
due_input due.Line waiting = line_event waiting
