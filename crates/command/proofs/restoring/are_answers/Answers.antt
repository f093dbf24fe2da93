use Rattle.std.proofs.Common.{sym, ◌∙◌}
use Rattle.command.proofs.SavedBack.{asdus_by}
use Rattle.command.proofs.restoring.are_answers.Goals as goal

pub returns-clause-asdus : goal.returns-clause-asdus
returns-clause-asdus c = λ all. asdus_by c.args.answers.now (sym c.are_all_long.ensures ∙ all)
