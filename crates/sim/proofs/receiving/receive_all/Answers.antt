use Rattle.std.proofs.Common.{arith, sym, subst, IfSome}
use Rattle.ft12.specs.Spelling.{Fits}
use Rattle.link.specs.Secondary.{Secondary, ReceivesOctets}
use Rattle.sim.proofs.ReceivingLemmas.{received_more}
use Rattle.sim.proofs.receiving.receive_all.Goals as goal

pub loop-station-preserved : goal.loop-station-preserved
loop-station-preserved c =
    received_more c.args.octets.now c.args.stations.now c.loop-station.stations
    c.loop-station.station-index
    c.loop-station.answer c.receive-frame.result c.later_of-answer.result
    c.station-item.result c.receive-frame.new.self (omega arith) c.loop-station.invariant
    c.station-item.is
    (subst (λ (u : Secondary). ReceivesOctets u c.args.octets.now c.receive-frame.result
    c.receive-frame.new.self)
    (sym c.station-item.is) c.receive-frame.ensures.arrived)
    (subst (λ (u : Secondary). IfSome c.receive-frame.result (Fits u.size))
    (sym c.station-item.is) c.receive-frame.ensures.fits) c.later_of-answer.ensures
