use Rattle.std.proofs.Common.{◌≤◌, ◌-◌, ap, ◌∙◌}
use Rattle.events.specs.Queue.{queue_of, acknowledged}
use Rattle.events.proofs.Marks.{queue_of-acknowledged, within_mark}
use Rattle.events.proofs.Events.acknowledge.Goals as goal

pub returns : goal.returns
returns c =
    let e = c.self.inside in
    let le : c.args.count ≤ e.sent =
    within_mark e.ring.items e.sent e.places c.args.count c.args.self.now c.self.view_is
    c.requires in
    ap (λ r. queue_of r.items (e.sent - c.args.count) e.places) c.remove_oldest.ensures
    ∙ queue_of-acknowledged e.ring.items e.sent e.places c.args.count le
    ∙ ap (acknowledged c.args.count) c.self.view_is
