use Rattle.std.proofs.Common.{take}
use Rattle.status.specs.Shown.{AreKnown}
use Rattle.status.proofs.lookout.known.known_of.Given as goal

abbrev pub invariant-loop-station : goal.invariant-loop-station
invariant-loop-station l = AreKnown l.names (take l.station-index l.stations) l.known.items
