use Rattle.std.proofs.Common.{◌∙◌, ap, sym}
use Rattle.command.specs.Saved.{waiting_in}
use Rattle.command.proofs.SavedBack.{waiting_back}
use Rattle.command.proofs.ReadExactly.{waiting_only}
use Rattle.command.proofs.saving.WaitingSaved.read.Goals as goal

pub returns-clause-back : goal.returns-clause-back
returns-clause-back c = λ x savable is.
    c.waiting_from.ensures ∙ (ap waiting_in is ∙ waiting_back x savable)

pub returns-clause-exact : goal.returns-clause-exact
returns-clause-exact c = λ x is. waiting_only c.args.line.now x (sym c.waiting_from.ensures ∙ is)
