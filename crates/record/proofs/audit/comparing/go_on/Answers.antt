use Rattle.std.proofs.Common.{◌∙◌, subst}
use Rattle.std.specs.Option.{option_copied}
use Rattle.traces.specs.Fields.{parts_after}
use Rattle.record.specs.Comparing.{IsWalk}
use Rattle.record.proofs.CompareLemmas.{behind_on, level_on, off_on}
use Rattle.record.proofs.audit.comparing.go_on.Goals as goal

pub returns-in-Level : goal.returns-in-Level
returns-in-Level c = λ lines run so counted.
    let part = parts_after 10 (option_copied c.args.part) in
    level_on lines run part c.args.first c.args.ahead.items c.args.page.now
    c.as_slice.result.now so.0 so.1 counted (c.as_slice.ensures.value
    ∙ c.in_ok-extend_from_slice.ensures.items)
    c.in-Level.rest.now c.in_ok-from_slice-in-Level.field-0.items c.requires
    (subst (IsWalk c.args.first part c.as_slice.result.now) c.in-Level.is c.in-Some.ensures)
    c.in_ok-from_slice-in-Level.ensures.items

pub returns-in-Behind : goal.returns-in-Behind
returns-in-Behind c = λ lines run so counted.
    let part = parts_after 10 (option_copied c.args.part) in
    behind_on lines run part c.args.first c.args.ahead.items c.args.page.now
    c.as_slice.result.now so.0 so.1 counted (c.as_slice.ensures.value
    ∙ c.in_ok-extend_from_slice.ensures.items)
    c.in-Behind.n c.in-Behind.line.now c.in_ok-from_slice-in-Behind.field-0.items
    (subst (IsWalk c.args.first part c.as_slice.result.now) c.in-Behind.is c.in-Some.ensures)
    c.in_ok-from_slice-in-Behind.ensures.items

pub returns : goal.returns
returns c = λ lines run so counted.
    let part = parts_after 10 (option_copied c.args.part) in
    off_on lines run part c.args.first c.args.ahead.items c.args.page.now
    c.as_slice.result.now so.0 so.1 counted (c.as_slice.ensures.value
    ∙ c.in_ok-extend_from_slice.ensures.items)
    c.in-Differs.n c.in-Differs.line.now c.in_ok-from_slice-in-Differs.field-0.items
    (subst (IsWalk c.args.first part c.as_slice.result.now) c.in-Differs.is c.in-Some.ensures)
    c.in_ok-from_slice-in-Differs.ensures.items
