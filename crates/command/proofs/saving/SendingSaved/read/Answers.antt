use Rattle.std.proofs.Common.{◌∙◌, sym}
use Rattle.command.proofs.ReadExactly.{sending_only}
use Rattle.command.proofs.saving.SendingSaved.read.Goals as goal

pub returns-clause-exact : goal.returns-clause-exact
returns-clause-exact c = λ x is. sending_only c.args.line.now x (sym c.sending_from.ensures ∙ is)
