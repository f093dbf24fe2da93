-- The words of the command line (this gateway's own profile): `telegate COMMAND WORD.. [--FLAG..]`.
use Rattle.std.specs.Prelude.{◌≡◌, Bool, true, false, List, [], ◌∷◌, Option, Some, None}
use Rattle.std.specs.Prelude.{MatchOption, codes, map, option_map}
use Rattle.std.specs.Borrow.{Bor}
use Rattle.clap.specs.Words.{App, Rule, Row, Text, all_of, app_of, first_of, new_app, new_rule}
use Rattle.clap.specs.Words.{one_of, rule_of, with_rule, with_subcommand}
use Rattle.clap.specs.declared.builder.arg.Arg.{Arg}
use Rattle.clap.specs.declared.builder.command.Command.{Command}
use Rattle.clap.specs.declared.builder.command.Command.TheViews.{out-Command}
use Rattle.clap.specs.declared.builder.action.ArgAction.TheVariants.{Append, Set, SetTrue}
use Rattle.telegate.specs.declared.command_line.CommandWord.{CommandWord}
use Rattle.telegate.specs.declared.command_line.CommandWord.TheVariants.{Needed, Further, Flag}
use Rattle.telegate.specs.declared.command_line.CommandWord.TheVariants.{Single, Repeated}
use Rattle.telegate.specs.declared.run_words.RunWords.{RunWords}
use Rattle.telegate.specs.declared.command_line.CommandRequest.{CommandRequest}
use Rattle.telegate.specs.declared.command_line.CommandRequest.TheVariants.{Show101, Show104, Check}
use Rattle.telegate.specs.declared.command_line.CommandRequest.TheVariants.{Replay, Sim, Audit, Run}
use Rattle.telegate.specs.declared.command_line.CommandRequest.TheVariants.{Status, State, Capture}
use Rattle.telegate.specs.declared.command_line.CommandRequest.TheVariants.{Stations, Centre}
use Rattle.telegate.specs.declared.controlling.CentreWords.{CentreWords}

-- What the commands take

-- a word that has to be given, at its place
abbrev pub word : Text → Rule
word name = record (new_rule name) { action = Some Set; required = true }

-- one that need not be
abbrev pub further_word : Text → Rule
further_word name = record (new_rule name) { action = Some Set }

-- `--name`, anywhere behind the command, at most once
abbrev pub flag : Text → Rule
flag name = record (new_rule name) { long = Some name; action = Some SetTrue }

-- `--name WORD`, anywhere behind the command, at most once
abbrev pub single : Text → Rule
single name = record (new_rule name) { long = Some name; action = Some Set }

-- `--name WORD`, anywhere behind the command, any number of times
abbrev pub option : Text → Rule
option name = record (new_rule name) { long = Some name; action = Some Append }

abbrev pub rule_in : CommandWord → Rule
rule_in (Needed name help) = word name.now
rule_in (Further name help) = further_word name.now
rule_in (Flag name help) = flag name.now
rule_in (Single name help) = single name.now
rule_in (Repeated name help) = option name.now

-- a command with these words and flags, in this order
abbrev pub with_all : List Rule → App → App
with_all [] command = command
with_all (rule ∷ rules) command = with_all rules (with_rule command rule)

abbrev pub command : Text → List Rule → App
command name rules = with_all rules (new_app name)

abbrev pub show101 : App
show101 = command (codes "show101") (word (codes "SIZES") ∷ word (codes "HEX")
    ∷ flag (codes "words") ∷ [])

abbrev pub show104 : App
show104 = command (codes "show104") (word (codes "HEX") ∷ flag (codes "words") ∷ [])

abbrev pub check : App
check = command (codes "check") (word (codes "CONFIG") ∷ flag (codes "live")
    ∷ flag (codes "explain") ∷ single (codes "site") ∷ [])

abbrev pub replay : App
replay = command (codes "replay") (word (codes "CONFIG") ∷ word (codes "TRACE")
    ∷ flag (codes "left") ∷ flag (codes "counts") ∷ flag (codes "words") ∷ flag (codes "color")
    ∷ [])

abbrev pub sim : App
sim = command (codes "sim") (word (codes "CONFIG") ∷ word (codes "SCRIPT")
    ∷ flag (codes "words") ∷ flag (codes "color") ∷ [])

abbrev pub audit : App
audit = command (codes "audit") (word (codes "CONFIG") ∷ word (codes "RECORD") ∷ [])

abbrev pub run : App
run = command (codes "run") (word (codes "CONFIG") ∷ flag (codes "redial") ∷ flag (codes "log")
    ∷ flag (codes "record") ∷ single (codes "state") ∷ flag (codes "state-or-stop")
    ∷ option (codes "allow") ∷ single (codes "status") ∷ single (codes "site")
    ∷ flag (codes "log-severity") ∷ [])

abbrev pub status : App
status = command (codes "status") (word (codes "PLACE") ∷ flag (codes "json") ∷ [])

abbrev pub state : App
state = command (codes "state") (word (codes "DIR") ∷ further_word (codes "CONFIG")
    ∷ flag (codes "reports") ∷ [])

abbrev pub capture : App
capture = command (codes "capture") (word (codes "CONFIG") ∷ word (codes "RECORD") ∷ [])

abbrev pub stations : App
stations = command (codes "stations") (word (codes "CONFIG") ∷ word (codes "SCRIPT")
    ∷ flag (codes "words") ∷ [])

abbrev pub centre : App
centre = command (codes "centre") (word (codes "PLACE") ∷ further_word (codes "CONFIG")
    ∷ further_word (codes "WHAT") ∷ further_word (codes "TARGET") ∷ further_word (codes "VALUE")
    ∷ flag (codes "tagged") ∷ flag (codes "json") ∷ single (codes "wait") ∷ [])

-- the program, of whose commands one has to be named
abbrev pub bare : App
bare = record {
  top = record ((new_app (codes "telegate")).top) {
    subcommand_required = true;
    arg_required_else_help = true;
    has_version = true;
  };
  subs = [];
}

-- with its commands
abbrev pub with_commands : List App → App → App
with_commands [] above = above
with_commands (below ∷ commands) above = with_commands commands (with_subcommand above below.top)

abbrev pub program : App
program = with_commands (show101 ∷ show104 ∷ check ∷ replay ∷ sim ∷ audit ∷ run ∷ status
    ∷ state ∷ capture ∷ stations ∷ centre ∷ []) bare

-- What the code builds is that

abbrev pub IsArgument : Rule → Arg → Type 0
IsArgument rule a = (rule_of a ≡ rule) × (a.global ≡ false)

abbrev pub IsCommand : App → Command → Type 0
IsCommand app c = (app_of c ≡ app) × ((out-Command c).has_globals ≡ false)

-- What words ask for, by what stands under each name

-- the word given under a name
abbrev pub IsGiven : List Row → (name text : Text) → Type 0
IsGiven rows name text = first_of name rows ≡ Some text

-- the word given under a name, if one is
abbrev pub IsNamed : List Row → (name : Text) → Option Text → Type 0
IsNamed rows name text = text ≡ first_of name rows

abbrev pub text_of : Option (Bor Text) → Option Text
text_of word = option_map (λ w. w.now) word

-- whether a flag is given
abbrev pub IsFlag : List Row → (name : Text) → Bool → Type 0
IsFlag rows name flag = (one_of name rows ≡ None → flag ≡ false)
    × (one_of name rows ≡ Some (codes "true") → flag ≡ true)
    × (one_of name rows ≡ Some (codes "false") → flag ≡ false)

-- the words given under a name, in their order, if any are
abbrev pub AreGiven : List Row → (name : Text) → Option (List Text) → Type 0
AreGiven rows name texts = texts ≡ all_of name rows

abbrev pub texts_of : Option (Bor (List (Bor Text))) → Option (List Text)
texts_of words = option_map (λ ws. map (λ word. word.now) ws.now) words

-- this is said of a live run
pub record AreRunWords (rows : List Row) (words : RunWords) : Type 0 where
  pub site : IsNamed rows (codes "site") (text_of words.site)
  pub redial : IsFlag rows (codes "redial") words.redial
  pub log : IsFlag rows (codes "log") words.log
  pub log_severity : IsFlag rows (codes "log-severity") words.log_severity
  pub recorded : IsFlag rows (codes "record") words.«record»
  pub state : IsNamed rows (codes "state") (text_of words.state)
  pub or_stop : IsFlag rows (codes "state-or-stop") words.state_or_stop
  pub allow : AreGiven rows (codes "allow") (texts_of words.allow)
  pub status : IsNamed rows (codes "status") (text_of words.status)

-- this is said of a control centre
pub record AreCentreWords (rows : List Row) (words : CentreWords) : Type 0 where
  pub place : IsGiven rows (codes "PLACE") words.place.now
  pub config : IsNamed rows (codes "CONFIG") (text_of words.config)
  pub what : IsNamed rows (codes "WHAT") (text_of words.what)
  pub target : IsNamed rows (codes "TARGET") (text_of words.target)
  pub value : IsNamed rows (codes "VALUE") (text_of words.value)
  pub tagged : IsFlag rows (codes "tagged") words.tagged
  pub json : IsFlag rows (codes "json") words.json
  pub wait : IsNamed rows (codes "wait") (text_of words.wait)

-- the command that was named, with what was given for it, asks for this
abbrev pub AsksFor : (name : Text) → List Row → CommandRequest → Type 0
AsksFor name rows (Show101 sizes hex words) = (name ≡ codes "show101")
    × IsGiven rows (codes "SIZES") sizes.now × IsGiven rows (codes "HEX") hex.now
    × IsFlag rows (codes "words") words
AsksFor name rows (Show104 hex words) = (name ≡ codes "show104")
    × IsGiven rows (codes "HEX") hex.now × IsFlag rows (codes "words") words
AsksFor name rows (Check config site live explain) =
    (name ≡ codes "check") × IsGiven rows (codes "CONFIG") config.now
    × IsNamed rows (codes "site") (text_of site)
    × IsFlag rows (codes "live") live × IsFlag rows (codes "explain") explain
AsksFor name rows (Replay config trace left counts words color) =
    (name ≡ codes "replay") × IsGiven rows (codes "CONFIG") config.now
    × IsGiven rows (codes "TRACE") trace.now × IsFlag rows (codes "left") left
    × IsFlag rows (codes "counts") counts × IsFlag rows (codes "words") words
    × IsFlag rows (codes "color") color
AsksFor name rows (Sim config script words color) = (name ≡ codes "sim")
    × IsGiven rows (codes "CONFIG") config.now × IsGiven rows (codes "SCRIPT") script.now
    × IsFlag rows (codes "words") words × IsFlag rows (codes "color") color
AsksFor name rows (Audit config text) = (name ≡ codes "audit")
    × IsGiven rows (codes "CONFIG") config.now × IsGiven rows (codes "RECORD") text.now
AsksFor name rows (Run config words) =
    (name ≡ codes "run") × IsGiven rows (codes "CONFIG") config.now × AreRunWords rows words
AsksFor name rows (Status place json) = (name ≡ codes "status")
    × IsGiven rows (codes "PLACE") place.now × IsFlag rows (codes "json") json
AsksFor name rows (State directory config reports) = (name ≡ codes "state")
    × IsGiven rows (codes "DIR") directory.now × IsNamed rows (codes "CONFIG") (text_of config)
    × IsFlag rows (codes "reports") reports
AsksFor name rows (Capture config text) = (name ≡ codes "capture")
    × IsGiven rows (codes "CONFIG") config.now × IsGiven rows (codes "RECORD") text.now
AsksFor name rows (Stations config script words) = (name ≡ codes "stations")
    × IsGiven rows (codes "CONFIG") config.now × IsGiven rows (codes "SCRIPT") script.now
    × IsFlag rows (codes "words") words
AsksFor name rows (Centre words) = (name ≡ codes "centre") × AreCentreWords rows words

-- the request, or none if none is asked for
abbrev pub IsAsked : (name : Text) → List Row → Option CommandRequest → Type 0
IsAsked name rows asked =
    MatchOption asked ((request : CommandRequest) → AsksFor name rows request
    → ⊥) (AsksFor name rows)

-- the same of the command that the words name, if any
abbrev pub IsRequestOf : Option (Text × List Row) → Option CommandRequest → Type 0
IsRequestOf None asked = asked ≡ None
IsRequestOf (Some (name, rows)) asked = IsAsked name rows asked
