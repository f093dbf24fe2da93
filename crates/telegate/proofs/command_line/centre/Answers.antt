use Rattle.std.proofs.lemmas.Result.{IfOk-weaker}
use Rattle.std.proofs.Common.{rules}
use Rattle.clap.specs.Words.{new_app}
use Rattle.std.specs.Prelude.{codes}
use Rattle.telegate.specs.CommandLine.{IsCommand}
use Rattle.telegate.specs.CommandLine as line
use Rattle.telegate.proofs.command_line.centre.Goals as goal

pub returns : goal.returns
returns c =
    IfOk-weaker c.with_words.result _ (IsCommand line.centre)
    (λ r adds. adds (new_app (codes "centre")) (search rules)) c.with_words.ensures
