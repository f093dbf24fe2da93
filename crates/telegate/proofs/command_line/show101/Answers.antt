use Rattle.std.proofs.lemmas.Result.{IfOk-weaker}
use Rattle.std.proofs.Common.{rules}
use Rattle.clap.specs.Words.{new_app}
use Rattle.std.specs.Prelude.{codes}
use Rattle.telegate.specs.CommandLine.{IsCommand}
use Rattle.telegate.specs.CommandLine as line
use Rattle.telegate.proofs.command_line.show101.Goals as goal

pub returns : goal.returns
returns c =
    IfOk-weaker c.with_words.result _ (IsCommand line.show101)
    (λ r adds. adds (new_app (codes "show101")) (search rules)) c.with_words.ensures
