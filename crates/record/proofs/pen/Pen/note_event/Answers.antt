use Rattle.std.proofs.Common.{rules, ◌≡◌, true, false, subst}
use Rattle.gateway.specs.Ports.{logged_by}
use Rattle.record.specs.Recording.{IsKept, held_or_over}
use Rattle.traces.specs.Printed.{lines_of_log}
use Rattle.record.proofs.Text.{held_logged}
use Rattle.record.proofs.pen.Pen.note_event.Goals as goal

pub returns-else-not-hold_event-clause-log : goal.returns-else-not-hold_event-clause-log
returns-else-not-hold_event-clause-log g c =
    let taken : c.hold_event.result ≡ true = search rules in
    let goes : c.args.self.now.is_over ≡ false = search rules in
    let held : c.hold_event.new.self ≡ held_or_over true
    (lines_of_log (logged_by c.args.next c.args.buf.now)) c.args.self.now
    = search rules in
    held_logged c.printed_lines_read_back.ensures.log c.args.self.now c.hold_event.new.self
    (logged_by c.args.next c.args.buf.now) (c.hold_event.ensures.printable taken)
    (subst IsKept c.self.view_is c.self.invariant) goes held
