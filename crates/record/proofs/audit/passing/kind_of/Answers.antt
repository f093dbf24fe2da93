use Rattle.std.proofs.Common.{sym, ◌∙◌, false}
use Rattle.std.specs.Option.{option_copied}
use Rattle.record.proofs.PassingLemmas.{kind_event, uncut_action}
use Rattle.record.proofs.audit.passing.kind_of.Goals as goal

pub returns-in_default : goal.returns-in_default
returns-in_default c =
    let line = c.args.line.now in
    let uncut = sym c.is_cut.ensures ∙ c.if-is_cut.false in
    kind_event line c.first_event-next.new.buf (option_copied c.first_event-next.result.1)
    c.first_event-next.result.0 uncut
    (uncut_action line false uncut (sym c.is_marked.ensures ∙ c.if-is_marked.false)) c.requires
    c.first_event-next.ensures c.in_default.not-Done c.in_default.not-Fault
