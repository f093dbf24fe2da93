use Rattle.std.proofs.Common.{◌≡◌, ◌∷◌, [], ap, sym, ◌∙◌}
use Rattle.std.specs.Option.{option_copied}
use Rattle.traces.specs.Fields.{parts_after}
use Rattle.traces.specs.Trace.{lines_of}
use Rattle.telegate.proofs.RecordLemmas.{none_more, some_here, have_actions}
use Rattle.telegate.proofs.recorded.have_actions.Goals as goal

pub returns-then-is_action_line : goal.returns-then-is_action_line
returns-then-is_action_line c =
    sym (c.seeking.invariant
    ∙ some_here c.cut.result.0.now (parts_after 10 (option_copied c.cut.result.1))
    (lines_of c.seeking.left.now) c.cut.ensures (sym c.is_action_line.ensures
    ∙ c.if-is_action_line.true))

pub returns-in_default : goal.returns-in_default
returns-in_default c =
    sym (c.seeking.invariant
    ∙ none_more c.cut.result.0.now (parts_after 10 (option_copied c.cut.result.1))
    (lines_of c.seeking.left.now) c.cut.ensures (sym c.is_action_line.ensures
    ∙ c.if-is_action_line.false)
    ∙ ap (λ o. have_actions (parts_after 10 (option_copied o))) c.in_default.is)

pub seeking-preserved : goal.seeking-preserved
seeking-preserved c =
    c.seeking.invariant
    ∙ none_more c.cut.result.0.now (parts_after 10 (option_copied c.cut.result.1))
    (lines_of c.seeking.left.now) c.cut.ensures (sym c.is_action_line.ensures
    ∙ c.if-is_action_line.false)
    ∙ ap (λ o. have_actions (parts_after 10 (option_copied o))) c.in-Some.is
