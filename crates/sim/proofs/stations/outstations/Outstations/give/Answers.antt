use Rattle.sim.proofs.Reporting.{station_given}
use Rattle.sim.proofs.stations.outstations.Outstations.give.Goals as goal

pub returns : goal.returns
returns c =
    station_given _ _ c.self.view_is c.args.station c.args.class c.args.report.now
    c.index_mut.result.now c.report_to.new.station c.report_to.result c.requires.here
    c.index_mut.ensures.value c.report_to.ensures
