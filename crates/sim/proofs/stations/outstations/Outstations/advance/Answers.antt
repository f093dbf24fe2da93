use Rattle.std.proofs.Common.{arith}
use Rattle.sim.proofs.Replying.{advanced_here, advanced_past}
use Rattle.sim.proofs.stations.outstations.Outstations.advance.Goals as goal

pub returns-then-station-len : goal.returns-then-station-len
returns-then-station-len c =
    advanced_here _ _ c.self.view_is c.args.station c.index_mut.result.now c.step.new.self
    (omega (arith, c.if-station-len.true, c.len.ensures, c.self.inside.progress.ok.0))
    c.index_mut.ensures.value c.step.ensures

pub returns-else-station-len : goal.returns-else-station-len
returns-else-station-len c =
    advanced_past _ _ c.self.view_is c.args.station
    (omega (arith, c.if-station-len.false, c.len.ensures, c.self.inside.progress.ok.0))
