use Rattle.std.proofs.Common.{◌∙◌, sym, arith}
use Rattle.runlog.proofs.Firsts.{some_last}
use Rattle.runlog.proofs.traffic.traffic_line.Goals as goal

-- the first that has a line
pub returns-in-Some : goal.returns-in-Some
returns-in-Some c =
    some_last c.args.now c.loop-station.station-index c.loop-station.traffic _ c.line.new.self
    c.in-Some.line
    (omega arith) (sym c.in-Some.ensures)
    ∙ c.loop-station.invariant
