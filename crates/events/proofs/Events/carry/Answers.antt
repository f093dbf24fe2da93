use Rattle.std.proofs.Common.{◌≡◌, ℕ, List, ap, ◌∙◌, rules}
use Rattle.arrayvec.specs.ArrayVec.{ArrayVec}
use Rattle.events.specs.Queue.{Queue, queue_of, kept}
use Rattle.events.proofs.Marks.{queue_of-rewound, queue_from}
use Rattle.events.proofs.Events.carry.Goals as goal
use Rattle.events.proofs.Events.carry.Goals.{then-capacity-places+in_ok-map_err}
use Rattle.events.proofs.Events.carry.Goals.{else-capacity-places}

pub returns-clause-ok : goal.returns-clause-ok
returns-clause-ok c =
    let e = c.self.inside in
    let same : c.if-capacity-places.self-inside.ring.items ≡ e.ring.items =
    elim c.if-capacity-places.branch [
      | then-capacity-places+in_ok-map_err w ↦
          (let r : w.widen.new.self ≡ record { items = e.ring.items; capacity = c.args.places } =
          search rules in ap (λ (i : _). i.ring.items) w.self-inside-is ∙ ap (λ (r : _). r.items) r)
      | else-capacity-places w ↦ ap (λ (i : _). i.ring.items) w.self-inside-is
    ] in
    ap (λ (xs : List (ArrayVec ℕ)). queue_of xs 0 c.args.places) same
    ∙ queue_of-rewound e.ring.items e.sent c.args.places
    ∙ ap (λ (q : Queue). queue_from (queue_of e.ring.items 0 0).sent (kept q) c.args.places)
    c.self.view_is
