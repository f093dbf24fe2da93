use Rattle.std.proofs.Common.{sym}
use Rattle.sim.proofs.Reporting.{report_counted}
use Rattle.sim.proofs.stations.outstations.Outstations.report.Goals as goal

pub returns : goal.returns
returns c =
    report_counted _ _ c.args.self.now c.self.view_is c.args.station c.args.class
    c.args.report.now c.if-not-give.ensures c.index.result.now c.saturating_add.result
    c.if-not-has_room.ensures.known c.index.ensures c.saturating_add.ensures
    (sym c.if-not-has_room.ensures.value)
