use Rattle.live.proofs.Logs.{next_logged}
use Rattle.live.proofs.port.Ends.turn_on.Goals as goal

pub returns-clause-turns : goal.returns-clause-turns
returns-clause-turns g c = next_logged c.args.self.now c.find-next.new.self c.log_event.new.self
    c.find-next.result
    c.find-next.new.buf c.find-next.ensures.turns c.log_event.ensures
