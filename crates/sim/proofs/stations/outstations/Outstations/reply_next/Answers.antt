use Rattle.std.proofs.Common.{Some}
use Rattle.sim.proofs.Replying.{gives_taken, gives_waiting, manner_is, replied}
use Rattle.sim.proofs.stations.outstations.Outstations.reply_next.Goals as goal

pub returns-then-report : goal.returns-then-report
returns-then-report c =
    replied c.args.station c.args.self.now c.advance-then-report.new.self c.in-Some.refuses
    (Some c.in-Reply.reply)
    (manner_is _ _ c.self.view_is c.args.station c.as_slice.result.now c.in-Some.refuses
    c.in-Some.ensures c.as_slice.ensures.value) c.in-Reply.ensures.0
    (gives_taken c.args.station c.args.self.now c.report.new.self c.advance-then-report.new.self
    c.in-Reply.reply c.octets.result.now c.octets.ensures.octets c.if-report.ensures
    c.advance-then-report.ensures)

pub returns-else-report : goal.returns-else-report
returns-else-report c =
    replied c.args.station c.args.self.now c.report.new.self c.in-Some.refuses
    (Some c.in-Reply.reply)
    (manner_is _ _ c.self.view_is c.args.station c.as_slice.result.now c.in-Some.refuses
    c.in-Some.ensures c.as_slice.ensures.value) c.in-Reply.ensures.0
    (gives_waiting c.args.station c.args.self.now c.report.new.self c.in-Reply.reply
    c.octets.result.now c.octets.ensures.octets c.if-report.ensures)
