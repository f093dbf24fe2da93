use Rattle.std.proofs.Common.{◌≡◌, ◌∙◌, ap, refl, true, subst, map, string_bytes}
use Rattle.std.proofs.lemmas.Result.{IfOk-weaker}
use Rattle.clap.specs.Words.{App, FailsBy, app_of, fault_of, is_simple, is_simple_and_free}
use Rattle.clap.specs.Words.{subcommand_of}
use Rattle.clap.proofs.OnLiterals.{clap_on_literals}
use Rattle.telegate.specs.CommandLine.{program}
use Rattle.telegate.proofs.command_line.parse.Goals as goal

program_is_simple : is_simple program ≡ true
unfolding clap_on_literals
program_is_simple = refl

program_is_free : is_simple_and_free program ≡ true
unfolding clap_on_literals
program_is_free = refl

pub returns-clause-named : goal.returns-clause-named
returns-clause-named c =
    let is : app_of c.in_ok-program.field-0 ≡ program = c.in_ok-program.ensures.0 in
    IfOk-weaker c.try_get_matches_from.result _ _
    (λ m h. (h (ap is_simple is ∙ program_is_simple)).1
    ∙ ap (λ (a : App). subcommand_of a (map string_bytes c.args.words.now)) is)
    c.try_get_matches_from.ensures.matches

pub returns-clause-fails : goal.returns-clause-fails
returns-clause-fails c =
    let is : app_of c.in_ok-program.field-0 ≡ program = c.in_ok-program.ensures.0 in
    subst (λ (a : App). FailsBy (fault_of a (map string_bytes c.args.words.now))
    c.try_get_matches_from.result) is
    (c.try_get_matches_from.ensures.kinds (ap is_simple_and_free is ∙ program_is_free))
