use Rattle.std.proofs.Common.{◌∙◌, sym}
use Rattle.command.proofs.ReadExactly.{selection_only}
use Rattle.command.proofs.saving.SelectionSaved.read.Goals as goal

pub returns-clause-exact : goal.returns-clause-exact
returns-clause-exact c = λ x is. selection_only c.args.line.now x (sym c.selection_from.ensures
    ∙ is)
