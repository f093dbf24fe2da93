use Rattle.std.proofs.Common.{◌≡◌, ◌≤◌, ◌-◌, length, take, ap, ◌∙◌, arith, length-take}
use Rattle.circular_buffer.specs.Buffer.{Buffer}
use Rattle.events.specs.Ring.{Ring, ring_of, without_oldest}
use Rattle.events.proofs.Cells.{left_there, none_left, others_kept}
use Rattle.events.proofs.ring.PieceRing.remove_oldest.Goals as goal
use Rattle.events.proofs.ring.PieceRing.remove_oldest.Goals.{then-count-self, else-count-self}

pub returns : goal.returns
returns c =
    let e = c.self.inside in
    let n = c.args.count in
    let cells = e.cells.items in
    let after = c.if-count-self.self-inside in
    let within = c.self.invariant in
    let all = ap (λ (r : Ring). length r.items) c.self.view_is in
    let le : n ≤ e.count = omega (arith, c.requires, length-take e.count cells) in
    let left : ring_of (take (after.count - n) after.cells.items) after.cells.capacity
    ≡ without_oldest n (ring_of (take e.count cells) e.cells.capacity) =
    elim c.if-count-self.branch [
      | then-count-self w ↦
          ap (λ (i : _). ring_of (take (i.count - n) i.cells.items) i.cells.capacity)
          w.self-inside-is
          ∙ ap (λ (b : Buffer _). ring_of (take (e.count - n) b.items) b.capacity)
          w.truncate_front.ensures
          ∙ ap (λ xs. ring_of (take (e.count - n) xs) e.cells.capacity)
          (others_kept cells n (w.len.result - n) (omega (arith, le, within))
          (ap (λ k. k - n) w.len.ensures.len))
          ∙ ap (λ xs. ring_of xs e.cells.capacity) (left_there cells e.count n le)
      | else-count-self w ↦
          ap (λ (i : _). ring_of (take (i.count - n) i.cells.items) i.cells.capacity)
          w.self-inside-is
          ∙ ap (λ (b : Buffer _). ring_of (take (e.count - n) b.items) b.capacity)
          w.truncate_back.ensures
          ∙ ap (λ xs. ring_of xs e.cells.capacity)
          (none_left _ cells e.count n le (omega (arith, w.if-count-self.false)))
    ] in
    left ∙ ap (λ (r : Ring). without_oldest n r) c.self.view_is
