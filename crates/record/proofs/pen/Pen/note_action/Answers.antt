use Rattle.std.proofs.Common.{rules, ◌≡◌, ◌∷◌, [], true, false, subst}
use Rattle.gateway.specs.Log.{Went}
use Rattle.gateway.specs.Ports.{output_of}
use Rattle.record.specs.Recording.{IsKept, held_or_over}
use Rattle.traces.specs.Actions.{line_of}
use Rattle.record.proofs.Text.{held_logged}
use Rattle.record.proofs.pen.Pen.note_action.Goals as goal

pub returns-else-not-hold_action-clause-log : goal.returns-else-not-hold_action-clause-log
returns-else-not-hold_action-clause-log g c =
    let went = Went c.args.now (output_of c.args.action.now) in
    let taken : c.hold_action.result ≡ true = search rules in
    let goes : c.args.self.now.is_over ≡ false = search rules in
    let held : c.hold_action.new.self ≡ held_or_over true
    (line_of c.args.now (output_of c.args.action.now)) c.args.self.now
    = search rules in
    held_logged c.printed_lines_read_back.ensures.log c.args.self.now c.hold_action.new.self
    (went ∷ [])
    (c.hold_action.ensures.printable taken, tt) (subst IsKept c.self.view_is c.self.invariant) goes
    held
