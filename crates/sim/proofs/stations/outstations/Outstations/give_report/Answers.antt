use Rattle.std.proofs.Common.{sym, ◌∙◌}
use Rattle.sim.proofs.Reporting.{reported_here}
use Rattle.sim.proofs.stations.outstations.Outstations.give_report.Goals as goal

pub returns-then-report : goal.returns-then-report
returns-then-report c =
    reported_here c.args.passed c.args.line c.args.self.now _ _ c.in-Some.due c.octets.result.now
    (sym c.due.ensures.value ∙ c.in-Some.is) c.octets.ensures.octets c.if-report.ensures
    c.self.view_is c.index_mut.result.now c.give.new.self c.in-Some.ensures.here
    c.index_mut.ensures.value c.give.ensures
