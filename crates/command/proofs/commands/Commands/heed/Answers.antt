use Rattle.std.proofs.Common.{◌≡◌, ◌∙◌, List, false, ap, sym, subst}
use Rattle.std.specs.List.{list_any}
use Rattle.command.specs.Selection.{heeds}
use Rattle.command.specs.State.{State}
use Rattle.command.specs.declared.selection.Selection.{Selection}
use Rattle.command.proofs.Heeded.{unheeded_logged}
use Rattle.command.proofs.commands.Commands.heed.Goals as goal

pub returns-else-is_heeded : goal.returns-else-is_heeded
returns-else-is_heeded c =
    let what = c.args.sign in
    let P : State → Type 0 = λ s. list_any (heeds s.select_ms what) s.selections ≡ false in
    unheeded_logged what c.args.self.now (subst P c.self.view_is
    (ap (λ (zs : List Selection). list_any (heeds c.self.inside.select_ms what) zs)
    (sym c.as_slice.ensures.value)
    ∙ (sym c.is_heeded.ensures ∙ c.if-is_heeded.false)))
