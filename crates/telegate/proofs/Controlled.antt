-- How commands end.
use Rattle.std.proofs.Common.{◌<◌, arith}
use Rattle.telegate.specs.Faults.{status_of}
use Rattle.telegate.specs.declared.fault.Fault.{Fault}
use Rattle.telegate.specs.declared.fault.Fault.TheVariants as fault

-- No fault has the exit status 0.
pub above_0 : (why : Fault) → 0 < status_of why
above_0 (fault.Config why) = omega (arith)
above_0 (fault.Site why) = omega (arith)
above_0 (fault.Trace line) = omega (arith)
above_0 (fault.Script line) = omega (arith)
above_0 (fault.Record line) = omega (arith)
above_0 (fault.Unfit lines) = omega (arith)
above_0 fault.Sizes = omega (arith)
above_0 fault.Octets = omega (arith)
above_0 fault.Address = omega (arith)
above_0 fault.NoState = omega (arith)
above_0 fault.StateInUse = omega (arith)
above_0 (fault.StateUnusable cause) = omega (arith)
above_0 fault.EndUnusable = omega (arith)
above_0 fault.Device = omega (arith)
above_0 fault.Unread = omega (arith)
above_0 fault.NoMemory = omega (arith)
