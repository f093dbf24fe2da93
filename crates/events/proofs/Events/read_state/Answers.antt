use Rattle.std.proofs.Common.{◌≡◌, ◌∙◌, ℕ, List, [], get_or, ap, sym}
use Rattle.events.specs.Queue.{Queue, empty}
use Rattle.events.specs.Restored.{marked, in_places}
use Rattle.events.proofs.Marks.{queue_from}
use Rattle.events.proofs.TakenUp.{two_numbers, read_is, back_is, same_is, IsRead}
use Rattle.events.proofs.Events.read_state.Goals as goal

-- what was read is a queue, and its lines are those that came
read : (g : _) (c : goal.After-narrow g) → IsRead c.args.places (g.L.Lines.coming c.args.lines.now)
    (g.L.Lines.coming c.read_pieces.new.lines) c.narrow.new.self
read g c =
    let line = c.as_slice.result.now in
    let pieces = c.read_pieces.new.self.unsent in
    let begun : c.in-Ok.events ≡ empty c.max.result = c.in-Ok.ensures in
    read_is c.args.places c.max.result (get_or line 0 0) (get_or line 1 0) _ _ _ pieces _ _
    c.in_ok-next.ensures.some
    (sym c.as_slice.ensures.value ∙ two_numbers line c.in-len2.len_at_least c.in-len2.len_below)
    c.in_ok-read_pieces.ensures.lines c.in_ok-read_pieces.ensures.number c.if-kept-sent.false
    (c.narrow.ensures ∙ ap (in_places c.args.places) (c.mark_first.ensures
    ∙ ap (marked (get_or line 1 0))
    (ap (λ (ps : List (List ℕ)). queue_from ps pieces c.read_pieces.new.self.places)
    c.in_ok-read_pieces.ensures.sent
    ∙ ap (queue_from [] pieces)
    (c.in_ok-read_pieces.ensures.places ∙ ap (λ (q : Queue). q.places) begun))))
    c.in_ok-read_pieces.ensures.pieces.0 c.in_ok-read_pieces.ensures.pieces.1

pub returns-clause-read : goal.returns-clause-read
returns-clause-read g c = read g c

pub returns-clause-back : goal.returns-clause-back
returns-clause-back g c = λ q rest can given.
    let r = read g c in
    back_is c.args.places _ _ rest _ q r.1 r.2 given

pub returns-clause-same : goal.returns-clause-same
returns-clause-same g c = λ q rest can at given.
    let r = read g c in
    let b = back_is c.args.places _ _ rest _ q r.1 r.2 given in
    (b.0 ∙ same_is c.args.places q at, b.1)
