use Rattle.events.proofs.TakenUp.{on_ok_all, savable}
use Rattle.events.proofs.Events.put_state.Goals as goal

pub returns-clause-savable : goal.returns-clause-savable
returns-clause-savable g c =
    let e = c.self.inside in
    on_ok_all c.put_pieces.result _ _
    (savable e.ring.items e.sent e.places c.args.self.now c.self.view_is c.self.invariant.asdus)
    c.put_pieces.ensures.octets
