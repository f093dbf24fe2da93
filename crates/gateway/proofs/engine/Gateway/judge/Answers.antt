use Rattle.std.proofs.Common.{ap, sym}
use Rattle.apci.specs.Borrowed.{owned}
use Rattle.session.specs.Session.{is_close}
use Rattle.gateway.proofs.Taken.{nothing_judged, taken_judged}
use Rattle.gateway.proofs.engine.Gateway.judge.Goals as goal

pub returns-in-Nothing : goal.returns-in-Nothing
returns-in-Nothing c =
    nothing_judged c.args.self.now c.take_frame.new.self (owned c.args.apdu)
    (sym c.in-Nothing.ensures.outcome)
    c.in-Nothing.ensures.state

pub returns-in-Asdu : goal.returns-in-Asdu
returns-in-Asdu c =
    taken_judged c.args.self.now c.take_frame.new.self c.judge_data.new.self
    (owned c.args.apdu) c.judge_data.result
    (ap is_close (sym c.in-Asdu.ensures.outcome)) c.in-Asdu.ensures.state c.judge_data.ensures.state
    c.judge_data.ensures.close
