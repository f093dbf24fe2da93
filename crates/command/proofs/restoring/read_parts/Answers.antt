use Rattle.std.proofs.Common.{rules, ◌∙◌, ◌++◌, List, ℕ, ap, sym, subst, map}
use Rattle.std.proofs.Common.{◌≤◌}
use Rattle.command.specs.Fields.{octets_of}
use Rattle.command.specs.Restored.{list_lines}
use Rattle.command.specs.Saved.{waiting_numbers, line_numbers, selection_numbers, sending_numbers}
use Rattle.command.specs.Saved.{answer_numbers}
use Rattle.command.proofs.SavedBack.{lists_of, answers_of, answers_back, answers_count}
use Rattle.command.proofs.SavedBack.{answers_savable}
use Rattle.command.proofs.ReadExactly.{all_lists}
use Rattle.command.proofs.restoring.read_parts.Goals as goal

pub returns-in_err-answers-clause-law : goal.returns-in_err-answers-clause-law
returns-in_err-answers-clause-law g c = λ s rest sav len e.
    let whole = e ∙ lists_of (list_lines (map waiting_numbers s.waiting)) (map line_numbers s.lines)
    (list_lines (map selection_numbers s.selections)) (list_lines (map sending_numbers s.sendings))
    (list_lines s.answers) rest in
    let w = c.in_ok-waiting.ensures.law s.waiting _ sav.few_waiting sav.waiting whole in
    let l = c.in_ok-on_lines.ensures.law s.lines _ (sav.all_lines ∙ len) sav.lines w.1 in
    let z = c.in_ok-selections.ensures.law s.selections _ sav.few_selections sav.selections l.1 in
    let d = c.in_ok-sendings.ensures.law s.sendings _ sav.few_sendings sav.sendings z.1 in
    let few = subst (λ (n : ℕ). n ≤ 16) (sym (answers_count s.answers)) sav.few_answers in
    let h = c.in_err-answers.ensures.law (answers_of s.answers) rest few
    (answers_savable s.answers sav.answers)
    (d.1 ∙ ap (λ (xs : List (List ℕ)). list_lines xs ++ rest) (sym (answers_back s.answers))) in
    search rules

pub returns-clause-law : goal.returns-clause-law
returns-clause-law g c = λ s rest sav len e.
    let whole = e ∙ lists_of (list_lines (map waiting_numbers s.waiting)) (map line_numbers s.lines)
    (list_lines (map selection_numbers s.selections)) (list_lines (map sending_numbers s.sendings))
    (list_lines s.answers) rest in
    let w = c.in_ok-waiting.ensures.law s.waiting _ sav.few_waiting sav.waiting whole in
    let l = c.in_ok-on_lines.ensures.law s.lines _ (sav.all_lines ∙ len) sav.lines w.1 in
    let z = c.in_ok-selections.ensures.law s.selections _ sav.few_selections sav.selections l.1 in
    let d = c.in_ok-sendings.ensures.law s.sendings _ sav.few_sendings sav.sendings z.1 in
    let few = subst (λ (n : ℕ). n ≤ 16) (sym (answers_count s.answers)) sav.few_answers in
    let h = c.in_ok-answers.ensures.law (answers_of s.answers) rest few
    (answers_savable s.answers sav.answers)
    (d.1 ∙ ap (λ (xs : List (List ℕ)). list_lines xs ++ rest) (sym (answers_back s.answers))) in (
      record {
        waiting = w.0;
        lines = l.0;
        selections = z.0;
        sendings = d.0;
        answers = ap octets_of h.0 ∙ answers_back s.answers;
      },
      h.1,
    )

pub returns-clause-exact : goal.returns-clause-exact
returns-clause-exact g c = λ known sizes select_ms max_age_ms.
    all_lists (list_lines (map waiting_numbers c.in_ok-waiting.waiting.items))
    (map line_numbers c.in_ok-on_lines.on_lines.items)
    (list_lines (map selection_numbers c.in_ok-selections.selections.items))
    (list_lines (map sending_numbers c.in_ok-sendings.sendings.items))
    (list_lines (map answer_numbers c.in_ok-answers.answers.items)) _ _ _ _ _ _
    c.in_ok-waiting.ensures.exact c.in_ok-on_lines.ensures.exact c.in_ok-selections.ensures.exact
    c.in_ok-sendings.ensures.exact c.in_ok-answers.ensures.exact
