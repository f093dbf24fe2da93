-- The command line that the code builds, word by word.
use Rattle.std.proofs.Common.{◌≡◌, ◌∙◌, ℕ, ◌+◌, ◌<◌, List, [], ◌∷◌, ◌++◌, length, map, take, get_or}
use Rattle.std.proofs.Common.{ap, ap₂, ◌||◌, refl, sym, subst}
use Rattle.std.proofs.lemmas.List.{map_more}
use Rattle.clap.specs.Words.{AddsArg, AddsSubcommand, App, Rule, with_rule, with_subcommand}
use Rattle.clap.specs.declared.builder.arg.Arg.{Arg}
use Rattle.clap.specs.declared.builder.command.Command.{Command}
use Rattle.telegate.specs.CommandLine.{IsArgument, IsCommand, with_all}

-- one more argument
pub with_argument : (app : App) (rule : Rule) (old new : Command) (a : Arg) → IsCommand app old
    → IsArgument rule a
    → AddsArg old a new → IsCommand (with_rule app rule) new
with_argument app rule old new a command argument adds = (
  adds.shape argument.1 ∙ ap₂ with_rule command.0 argument.0,
  adds.globals
      ∙ ap₂ ◌||◌ command.1 argument.1,
)

-- one more rule
all_more : (rules : List Rule) (rule : Rule) (app : App) → with_all (rules ++ rule ∷ []) app
    ≡ with_rule (with_all rules app) rule
all_more [] rule app = refl
all_more (r ∷ rules) rule app = all_more rules rule (with_rule app r)

-- the argument of one more word
pub with_word : {W : Type 0} (rule_of : W → Rule) (words : List W) (i : ℕ) (d : W) (app : App)
    (old new : Command) (a : Arg) → i < length words
    → IsCommand (with_all (map rule_of (take i words)) app) old
    → IsArgument (rule_of (get_or words i d)) a → AddsArg old a new
    → IsCommand (with_all (map rule_of (take (i + 1) words)) app) new
with_word {W} rule_of words i d app old new a within command argument adds =
    let more : with_all (map rule_of (take (i + 1) words)) app
    ≡ with_rule (with_all (map rule_of (take i words)) app) (rule_of (get_or words i d)) =
    ap (λ (rules : List Rule). with_all rules app) (map_more rule_of words i d within)
    ∙ all_more (map rule_of (take i words)) (rule_of (get_or words i d)) app in
    subst (λ (x : App). IsCommand x new) (sym more)
    (with_argument (with_all (map rule_of (take i words)) app) (rule_of (get_or words i d)) old new
    a command argument adds)

-- one more command
pub with_command : (app below : App) (old sub new : Command) → IsCommand app old
    → IsCommand below sub
    → AddsSubcommand old sub new → IsCommand (with_subcommand app below.top) new
with_command app below old sub new command added adds = (
  adds.shape added.1 ∙ ap₂ with_subcommand command.0 (ap (λ (a : App). a.top) added.0),
  adds.globals
      ∙ ap₂ ◌||◌ command.1 added.1,
)
