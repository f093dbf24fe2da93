use Rattle.std.proofs.Common.{map, subst, List}
use Rattle.std.proofs.lemmas.List.{take_all}
use Rattle.telegate.specs.CommandLine.{IsCommand, rule_in, with_all}
use Rattle.telegate.specs.declared.command_line.CommandWord.{CommandWord}
use Rattle.telegate.proofs.Commands.{with_word}
use Rattle.telegate.proofs.command_line.with_words.Goals as goal

pub loop-word-preserved : goal.loop-word-preserved
loop-word-preserved c app begun =
    with_word rule_in c.args.words.now c.loop-word.word-index _ app c.loop-word.command
    c.in_ok-command.command c.argument.result c.loop-word-test.true
    (c.loop-word.invariant app begun) c.argument.ensures c.in_ok-command.ensures

pub returns : goal.returns
returns c app begun =
    subst (λ (ws : List CommandWord). IsCommand (with_all (map rule_in ws) app)
    c.loop-word.command)
    (take_all c.loop-word.word-index c.args.words.now c.loop-word-test.false)
    (c.loop-word.invariant app begun)
