use Rattle.std.proofs.Common.{sym, subst, ap, ◌∙◌, arith}
use Rattle.events.specs.Pieces.{AreSendable}
use Rattle.events.specs.Queue.{Queue}
use Rattle.events.proofs.Marks.{unsent-next, room-next, sendable-drop}
use Rattle.events.proofs.Events.push_report.Goals as goal

pub loop-left-preserved : goal.loop-left-preserved
loop-left-preserved c =
    let loop = c.loop-left.invariant in
    let others = c.append_next.ensures.others in
    let sent = ap (λ (q : Queue). q.sent) c.append_next.ensures.queue in
    let unsent = ap (λ (q : Queue). q.unsent) c.append_next.ensures.queue in
    let places = ap (λ (q : Queue). q.places) c.append_next.ensures.queue in
    let room = loop.room in
    let same =
    room-next c.loop-left.left c.append_next.new.left c.loop-left.self c.append_next.new.self unsent
    others sent in
    record {
      sent = sent ∙ loop.sent;
      unsent = unsent-next c.loop-left.left c.append_next.new.left c.loop-left.self
          c.append_next.new.self unsent others
          ∙ loop.unsent;
      places = places ∙ loop.places;
      room = omega arith;
      lengths = subst AreSendable (sym others) (sendable-drop 1 c.loop-left.left loop.lengths);
    }
