use Rattle.std.proofs.Common.{◌≡◌, drop}
use Rattle.runlog.specs.Stations.{line_in}
use Rattle.runlog.proofs.stations.line_of.Given as goal

abbrev pub invariant-loop-i : goal.invariant-loop-i
invariant-loop-i l = line_in l.address l.asking l.now (drop l.i l.stations)
    ≡ line_in l.address l.asking l.now l.stations
