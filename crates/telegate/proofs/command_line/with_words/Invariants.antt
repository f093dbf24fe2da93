use Rattle.std.proofs.Common.{map, take}
use Rattle.clap.specs.Words.{App}
use Rattle.telegate.specs.CommandLine.{IsCommand, rule_in, with_all}
use Rattle.telegate.proofs.command_line.with_words.Given as goal

abbrev pub invariant-loop-word : goal.invariant-loop-word
invariant-loop-word l = (app : App) → IsCommand app l.initial.command
    → IsCommand (with_all (map rule_in (take l.word-index l.words)) app) l.command
