-- The exit statuses of faults (this gateway's own profile).
use Rattle.std.specs.Prelude.{ℕ, Result, Ok, Err}
use Rattle.telegate.specs.declared.fault.Fault.{Fault}
use Rattle.telegate.specs.declared.fault.Fault.TheVariants.{Config, Site, Trace, Script, Record}
use Rattle.telegate.specs.declared.fault.Fault.TheVariants.{Unfit}
use Rattle.telegate.specs.declared.fault.Fault.TheVariants.{Sizes, Octets, Address, NoState}
use Rattle.telegate.specs.declared.fault.Fault.TheVariants.{StateInUse, StateUnusable, Device}
use Rattle.telegate.specs.declared.fault.Fault.TheVariants.{EndUnusable, Unread, NoMemory}
use Rattle.telegate.specs.declared.fault.RunFault.{RunFault}
use Rattle.telegate.specs.declared.fault.RunFault.TheVariants as run

-- 1 wrong content, 2 a wrong word, 3 a device that failed, 4 no memory
abbrev pub status_of : Fault → ℕ
status_of (Config why) = 1
status_of (Site why) = 1
status_of (Trace line) = 1
status_of (Script line) = 1
status_of (Record line) = 1
status_of (Unfit lines) = 1
status_of Sizes = 1
status_of Octets = 1
status_of Address = 2
status_of NoState = 2
status_of StateInUse = 3
status_of (StateUnusable cause) = 3
status_of EndUnusable = 3
status_of Device = 3
status_of Unread = 3
status_of NoMemory = 4

-- that of a live run, as that of its command
abbrev pub fault_of_run : RunFault → Fault
fault_of_run run.StateInUse = StateInUse
fault_of_run (run.StateUnusable cause) = StateUnusable cause
fault_of_run run.EndUnusable = EndUnusable
fault_of_run run.Device = Device
fault_of_run run.NoMemory = NoMemory

-- that of a command that has ended, or stopped at a fault
abbrev pub status_of_end : Result (Unit {0}) Fault → ℕ
status_of_end (Ok done) = 0
status_of_end (Err fault) = status_of fault
