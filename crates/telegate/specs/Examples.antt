-- What the worked examples of the command line speak of: what words ask for, and how they end if
-- they ask for nothing.
use Rattle.std.specs.Prelude.{◌≡◌, ℕ, ◌==◌, ◌&&◌, Bool, List, [], ◌∷◌, Option, Some}
use Rattle.std.specs.Prelude.{codes, map}
use Rattle.std.specs.Borrow.{Bor}
use Rattle.clap.specs.Words.{Row, Text, fault_of, subcommand_of}
use Rattle.telegate.specs.CommandLine.{IsRequestOf, program, text_of}
use Rattle.telegate.specs.Shell.{status_of_kind}
use Rattle.telegate.specs.declared.command_line.CommandRequest.{CommandRequest}
use Rattle.telegate.specs.declared.command_line.CommandRequest.TheVariants.{Check}
use Rattle.telegate.specs.declared.command_line.CommandRequest.TheVariants.{Replay, Sim}
use Rattle.telegate.specs.declared.command_line.CommandRequest.TheVariants.{Stations, Status, State}

-- the command that these words behind the program's name name, with what they give for it
abbrev pub named_by : List Text → Option (Text × List Row)
named_by words = subcommand_of program (codes "telegate" ∷ words)

-- the exit statuses of what may be written of them in place of a command, if anything is
abbrev pub statuses_of : List Text → List ℕ
statuses_of words = map status_of_kind (fault_of program (codes "telegate" ∷ words))

-- this is so exactly if that is
pub record Agree (one other : Type 0) : Type 0 where
  pub there : one → other
  pub back : other → one

-- nothing is wrong with the words, and they ask for a request exactly if this is so
abbrev pub Ask : List Text → CommandRequest → Type 0 → Type 0
Ask words request is =
    (statuses_of words ≡ []) × Agree (IsRequestOf (named_by words) (Some request)) is

-- they ask for a command of two words
abbrev pub AskTwo : List Text → (Bor Text → Bor Text → CommandRequest) → (first second : Text)
    → Type 0
AskTwo words of first second = (one other : Bor Text)
    → Ask words (of one other) ((one.now ≡ first) × (other.now ≡ second))

-- for the judgement of settings, behind this file of a site, if any
abbrev pub AskCheck : List Text → (config : Text) → (site : Option Text) → (live explain : Bool)
    → Type 0
AskCheck words config site live explain = (c : Bor Text) (s : Option (Bor Text)) (l e : Bool) →
    Ask words (Check c s l e) ((c.now ≡ config) × (text_of s ≡ site) × (l ≡ live)
    × (e ≡ explain))

-- for a run over a trace, with these closing lines, in words and in colours
abbrev pub AskReplay : List Text → (config trace : Text) → (left counts in_words color : Bool)
    → Type 0
AskReplay words config trace left counts in_words color = (c t : Bor Text) (l n w o : Bool) →
    Ask words (Replay c t l n w o) ((c.now ≡ config) × (t.now ≡ trace) × (l ≡ left) × (n ≡ counts)
    × (w ≡ in_words) × (o ≡ color))

-- for a run of a script
abbrev pub AskSim : List Text → (config script : Text) → (in_words color : Bool) → Type 0
AskSim words config script in_words color = (c s : Bor Text) (w o : Bool) →
    Ask words (Sim c s w o) ((c.now ≡ config) × (s.now ≡ script) × (w ≡ in_words) × (o ≡ color))

-- for outstations to play, in words
abbrev pub AskStations : List Text → (config script : Text) → (in_words : Bool) → Type 0
AskStations words config script in_words = (c s : Bor Text) (w : Bool) →
    Ask words (Stations c s w) ((c.now ≡ config) × (s.now ≡ script) × (w ≡ in_words))

-- how a live run stands
abbrev pub AskStatus : List Text → (place : Text) → (json : Bool) → Type 0
AskStatus words place json = (p : Bor Text) (j : Bool) →
    Ask words (Status p j) ((p.now ≡ place) × (j ≡ json))

-- what a directory has, beside this file of settings, if any, and perhaps with what is queued
abbrev pub AskState : List Text → (directory : Text) → (config : Option Text) → (reports : Bool)
    → Type 0
AskState words directory config reports = (d : Bor Text) (c : Option (Bor Text)) (r : Bool) →
    Ask words (State d c r) ((d.now ≡ directory) × (text_of c ≡ config) × (r ≡ reports))
