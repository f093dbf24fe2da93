use Rattle.std.proofs.Common.{ap, sym, ◌∙◌, Some}
use Rattle.apci.specs.Borrowed.{owned}
use Rattle.gateway.proofs.Judgements.{logged_taken}
use Rattle.gateway.proofs.engine.Gateway.take_received.Goals as goal

pub returns-clause-kept : goal.returns-clause-kept
returns-clause-kept g c = λ p frame rest arrived h.
    c.take_apdu.ensures.kept p rest (logged_taken p _ c.args.self.now c.take_whole-apdu.new.self
    frame
    (owned c.as_ref.result) rest arrived
    (c.take_whole-apdu.ensures.frame ∙ ap Some (sym c.as_ref.ensures)) c.requires.whole
    c.take_whole-apdu.ensures.rest
    h)
