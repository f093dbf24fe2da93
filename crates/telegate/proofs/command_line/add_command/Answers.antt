use Rattle.std.proofs.Common.{Result, subst}
use Rattle.std.proofs.lemmas.Result.{IfOk-weaker}
use Rattle.std.specs.Prelude.{IfOk}
use Rattle.std.specs.declared.alloc.AllocError.{AllocError}
use Rattle.clap.specs.declared.builder.command.Command.{Command}
use Rattle.telegate.specs.CommandLine.{IsCommand}
use Rattle.telegate.proofs.Commands.{with_command}
use Rattle.telegate.proofs.command_line.add_command.Goals as goal

pub returns : goal.returns
returns c =
    IfOk-weaker c.subcommand.result _ _
    (λ r adds app below is added. with_command app below _ _ r is
    (subst (λ (x : Result Command AllocError). IfOk x (IsCommand below)) c.in_ok-command.was added)
    adds)
    c.subcommand.ensures
