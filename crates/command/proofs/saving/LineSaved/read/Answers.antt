use Rattle.std.proofs.Common.{◌∙◌, sym}
use Rattle.command.proofs.ReadExactly.{line_only}
use Rattle.command.proofs.saving.LineSaved.read.Goals as goal

pub returns-clause-exact : goal.returns-clause-exact
returns-clause-exact c = λ x is. line_only c.args.line.now x (sym c.line_from.ensures ∙ is)
