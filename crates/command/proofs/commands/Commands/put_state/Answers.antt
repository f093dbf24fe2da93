use Rattle.std.proofs.Common.{◌≤◌, ◌∙◌, ℕ, List, length, ap, sym, subst}
use Rattle.std.specs.List.{list_all}
use Rattle.command.specs.Restored.{IsSavable}
use Rattle.command.specs.Saved.{is_savable_waiting, is_savable_line, is_savable_selection}
use Rattle.command.specs.State.{State}
use Rattle.command.specs.declared.selection.Selection.{Selection}
use Rattle.command.specs.declared.waiting.Line.{Line}
use Rattle.command.specs.declared.waiting.Waiting.{Waiting}
use Rattle.command.proofs.SavedBack.{answers_by, few_octets}
use Rattle.command.proofs.commands.Commands.put_state.Goals as goal

pub returns-clause-savable : goal.returns-clause-savable
returns-clause-savable g c =
    let inside = c.self.inside in
    let P : State → Type 0 = λ s. IsSavable s in
    subst P c.self.view_is (record {
      few_waiting = c.self.invariant.few_waiting;
      waiting = ap (λ (ws : List Waiting). list_all is_savable_waiting ws)
          (sym c.as_slice.ensures.value)
          ∙ c.in_ok-put_list.ensures.savable;
      all_lines = c.self.invariant.lines;
      lines = ap (λ (ls : List Line). list_all is_savable_line ls) (sym c.as_slice-2.ensures.value)
          ∙ c.in_ok-put_items.ensures.savable;
      few_selections = subst (λ (zs : List Selection). length zs ≤ 16) c.as_slice-3.ensures.value
          c.as_slice-3.ensures.fits;
      selections = ap (λ (zs : List Selection). list_all is_savable_selection zs)
          (sym c.as_slice-3.ensures.value)
          ∙ c.in_ok-put_list-2.ensures.savable;
      few_sendings = subst (λ (n : ℕ). length inside.sendings.items ≤ n) c.self.invariant.sent
          c.in_ok-put_ring.ensures.few;
      sendings = c.in_ok-put_ring.ensures.savable;
      few_answers =
          let few : length inside.answers.items ≤ 16 =
          subst (λ (n : ℕ). length inside.answers.items ≤ n) c.self.invariant.room
          c.in_ok-put_ring-2.ensures.few in
          few_octets inside.answers.items few;
      answers = answers_by inside.answers.items c.in_ok-put_ring-2.ensures.savable
          c.self.invariant.asdus;
    })
