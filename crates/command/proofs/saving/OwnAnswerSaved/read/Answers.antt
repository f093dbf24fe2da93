use Rattle.command.proofs.ReadExactly.{answer_only}
use Rattle.command.proofs.saving.OwnAnswerSaved.read.Goals as goal

pub returns-clause-exact : goal.returns-clause-exact
returns-clause-exact c = λ x is. answer_only c.args.line.now _ x c.octets_from.ensures is
