-- What the commands answer (this gateway's own profile).
use Rattle.std.specs.Prelude.{◌≡◌, ◌⊎◌, ℕ, Bool, List, ◌++◌, Option, Some, None, Result, Ok, Err}
use Rattle.std.specs.Prelude.{MatchResult, Vec}
use Rattle.std.specs.Io.KnownBytes.{Appends, Keeps}
use Rattle.std.specs.declared.alloc.Global.{Global}
use Rattle.words.specs.Sizes.{sizes_of}
use Rattle.words.specs.declared.facts.sizes.LineSizes.{LineSizes}
use Rattle.words.specs.declared.facts.condition.Condition.{Condition}
use Rattle.words.specs.declared.facts.condition.Condition.TheVariants.{Good, Faulty}
use Rattle.traces.specs.Fields.{octets_of}
use Rattle.words.specs.Described.{IsLineDescribed, IsTcpDescribed}
use Rattle.traces.specs.Trace.{first_wrong}
use Rattle.traces.specs.declared.reading.TextFault.TheVariants.{Line as WrongLine}
use Rattle.gateway.specs.Config.{Settings}
use Rattle.gateway.specs.Log.{Log, LogEntry, events_of}
use Rattle.gateway.specs.Setups.{setup_of}
use Rattle.gateway.specs.Traffic.{IsFaithful, HasRested}
use Rattle.delivery.specs.Delivery.{Delivers}
use Rattle.sim.specs.Scripts.{IsScriptOf}
use Rattle.sim.specs.Runs.{IsBegun}
use Rattle.sim.specs.declared.directive.Directive.{Directive}
use Rattle.settings.specs.Settings.{IsReadOfText}
use Rattle.gateway.specs.Accounts.{IsAccounted}
use Rattle.gateway.specs.Agrees.{Follows}
use Rattle.gateway.specs.Order.{KeepsOrder}
use Rattle.gateway.specs.State.{State}
use Rattle.telegate.specs.Closing.{closing_lines}
use Rattle.telegate.specs.Faults.{status_of_end}
use Rattle.telegate.specs.Given.{GivesAnswer}
use Rattle.telegate.specs.Manners.{IsTextBy}
use Rattle.telegate.specs.Records.{IsFound, lines_read, script_read}
use Rattle.telegate.specs.SimulatedInWords.{IsSimulatedIn, IsCutShortIn, IsStoppedIn}
use Rattle.telegate.specs.declared.closing.Closing.{Closing}
use Rattle.telegate.specs.declared.answer.CommandAnswer.{CommandAnswer}
use Rattle.telegate.specs.declared.fault.Fault.{Fault}
use Rattle.telegate.specs.declared.fault.Fault.TheVariants.{Config, Trace, Script, Sizes, Octets}
use Rattle.telegate.specs.declared.fault.Fault.TheVariants.{Device, Unread, NoMemory}
use Rattle.telegate.specs.declared.manner.Manner.{Manner}
use Rattle.telegate.specs.declared.job.Job.{Job}
use Rattle.telegate.specs.declared.job.Job.TheVariants.{Show101, Show104, Sim}

-- octets that are as they should be, 0, or not, 1
abbrev pub status_by : Condition → ℕ
status_by Good = 0
status_by Faulty = 1

-- the octets of a word
abbrev pub IsOctetsFault : List ℕ → Fault → Type 0
IsOctetsFault hex Octets = octets_of hex ≡ None
IsOctetsFault hex NoMemory = Unit {0}
IsOctetsFault hex _ = ⊥

abbrev pub IsReadOctets : List ℕ → Result (Vec ℕ Global) Fault → Type 0
IsReadOctets hex result = MatchResult result (λ v. octets_of hex ≡ Some v.items) (IsOctetsFault hex)

-- that is answered, with a status that stands for a fault in the octets
pub record IsLineAnswer (words : Bool) (sizes hex : List ℕ) (answer : CommandAnswer) : Type 0 where
  pub line_sizes : LineSizes
  pub octets : List ℕ
  pub condition : Condition
  pub read_sizes : sizes_of sizes ≡ Some line_sizes
  pub read_octets : octets_of hex ≡ Some octets
  pub shown : IsLineDescribed words line_sizes octets (answer.text.items) condition
  pub status : answer.status ≡ status_by condition

-- sizes are judged before octets
abbrev pub IsLineFault : List ℕ → List ℕ → Fault → Type 0
IsLineFault sizes hex Sizes = sizes_of sizes ≡ None
IsLineFault sizes hex Octets = ((s : LineSizes) × (sizes_of sizes ≡ Some s))
    × (octets_of hex ≡ None)
IsLineFault sizes hex NoMemory = Unit {0}
IsLineFault sizes hex _ = ⊥

abbrev pub IsShown101 : (words : Bool) → List ℕ → List ℕ → Result CommandAnswer Fault → Type 0
IsShown101 words sizes hex result =
    MatchResult result (IsLineAnswer words sizes hex) (IsLineFault sizes hex)

pub record IsTcpAnswer (words : Bool) (hex : List ℕ) (answer : CommandAnswer) : Type 0 where
  pub octets : List ℕ
  pub condition : Condition
  pub read_octets : octets_of hex ≡ Some octets
  pub shown : IsTcpDescribed words octets (answer.text.items) condition
  pub status : answer.status ≡ status_by condition

abbrev pub IsShown104 : (words : Bool) → List ℕ → Result CommandAnswer Fault → Type 0
IsShown104 words hex result = MatchResult result (IsTcpAnswer words hex) (IsOctetsFault hex)

-- The text of the log of a run over this text, and the lines with which the run ends: the events of
-- the log are those of the text, as a trace (with a tick at moment 0 before them) or as a record,
-- the log keeps every promise of a gateway with these settings, and so delivers what the
-- outstations reported. What is left and was counted is that of a gateway whose state agrees with
-- this log: of the reports that went out on the open connection the very ASDUs that aren't
-- acknowledged, then as many pieces of the others as have places.
pub record IsReplay (settings : Settings) (manner : Manner) (as_record : Bool) (trace : List ℕ)
    (closing : Closing) (text : List ℕ) : Type 0 where
  pub log : Log
  pub events : events_of log ≡ script_read as_record trace
  pub faithful : IsFaithful (setup_of settings) log
  pub rests : HasRested (setup_of settings) log
  pub ordered : KeepsOrder log
  pub delivers : Delivers (setup_of settings) log
  pub state : State
  pub follows : Follows (setup_of settings) state (Some log)
  pub accounts : IsAccounted (setup_of settings) state log
  pub lines : List ℕ
  pub written : IsTextBy manner settings log lines
  pub joined : text ≡ lines ++ closing_lines closing.left closing.counts state

-- a text whose octets may be these was judged, and no line of it is wrong
pub record WasJudged (as_record : Bool) (has : List ℕ → Type 0) : Type 0 where
  pub trace : List ℕ
  pub is : has trace
  pub right : first_wrong 1 (lines_read as_record trace) ≡ None

-- a run over a text whose octets may be these, of which no line is wrong, and so much of the run's
-- text was printed
pub record IsRunOf (settings : Settings) (manner : Manner) (as_record : Bool)
    (has : List ℕ → Type 0) (closing : Closing) (IsPrinted : List ℕ → Type 0) : Type 0 where
  pub trace : List ℕ
  pub is : has trace
  pub right : first_wrong 1 (lines_read as_record trace) ≡ None
  pub text : List ℕ
  pub run : IsReplay settings manner as_record trace closing text
  pub printed : IsPrinted text

-- The same of a run that stopped before its end: the events of its log are the first of the text,
-- and a beginning of its text was printed.
pub record IsStopOf (settings : Settings) (manner : Manner) (as_record : Bool)
    (has : List ℕ → Type 0) (old new : Option (List ℕ)) : Type 0 where
  pub trace : List ℕ
  pub is : has trace
  pub log : Log
  pub rest : List LogEntry
  pub events : events_of log ++ rest ≡ script_read as_record trace
  pub faithful : IsFaithful (setup_of settings) log
  pub text : List ℕ
  pub written : IsTextBy manner settings log text
  pub printed : IsBegun old new text

-- How a run over a text ends that was judged. If the output failed, a beginning of the text of the
-- whole run was printed. If memory was refused, the text can't be read on, or a line of it is wrong
-- that wasn't, the run stops, or doesn't begin.
abbrev pub IsEndFault : Settings → Manner → (as_record : Bool) → (has : List ℕ → Type 0) → Closing
    → (old new : Option (List ℕ)) → Fault → Type 0
IsEndFault settings manner as_record has closing old new Device =
    IsRunOf settings manner as_record has closing (IsBegun old new)
IsEndFault settings manner as_record has closing old new NoMemory =
    Keeps old new ⊎ IsStopOf settings manner as_record has old new
IsEndFault settings manner as_record has closing old new Unread =
    Keeps old new ⊎ IsStopOf settings manner as_record has old new
IsEndFault settings manner as_record has closing old new _ = ⊥

abbrev pub IsEndOf : Settings → Manner → (as_record : Bool) → (has : List ℕ → Type 0) → Closing
    → (old new : Option (List ℕ)) → Result (Unit {0}) Fault → Type 0
IsEndOf settings manner as_record has closing old new result =
    MatchResult result
    (λ done. IsRunOf settings manner as_record has closing (Appends old new))
    (IsEndFault settings manner as_record has closing old new)

-- Settings and text are free of faults, and a run over the text ended so. The text is opened more
-- than once, so that its octets may be others each time.
pub record HasRun (config : List ℕ) (manner : Manner) (has : List ℕ → Type 0)
    (IsEnd : Settings → (as_record : Bool) → Type 0) : Type 0 where
  pub settings : Settings
  pub read_config : IsReadOfText config (Ok settings)
  pub as_record : Bool
  pub found : IsFound manner has as_record
  pub judged : WasJudged as_record has
  pub end : IsEnd settings as_record

-- this line is the first wrong one of a text whose octets may be these
pub record IsWrongTrace (manner : Manner) (has : List ℕ → Type 0) (line : ℕ) : Type 0 where
  pub as_record : Bool
  pub found : IsFound manner has as_record
  pub trace : List ℕ
  pub is : has trace
  pub wrong : first_wrong 1 (lines_read as_record trace) ≡ Some line

-- Settings are judged before the text, and both before anything is printed.
abbrev pub IsReplayFault : List ℕ → Manner → (has : List ℕ → Type 0) → Closing
    → (old new : Option (List ℕ)) → Fault → Type 0
IsReplayFault config manner has closing old new (Config why) =
    IsReadOfText config (Err why) × Keeps old new
IsReplayFault config manner has closing old new (Trace n) =
    ((s : Settings) × IsReadOfText config (Ok s)) × IsWrongTrace manner has n × Keeps old new
IsReplayFault config manner has closing old new Device =
    HasRun config manner has (λ s r. IsRunOf s manner r has closing (IsBegun old new))
IsReplayFault config manner has closing old new NoMemory =
    Keeps old new ⊎ HasRun config manner has (λ s r. IsStopOf s manner r has old new)
IsReplayFault config manner has closing old new Unread =
    Keeps old new ⊎ HasRun config manner has (λ s r. IsStopOf s manner r has old new)
IsReplayFault config manner has closing old new _ = ⊥

-- a replay of a text whose octets may be these
abbrev pub IsReplayed : List ℕ → Manner → (has : List ℕ → Type 0) → Closing
    → (old new : Option (List ℕ)) → Result (Unit {0}) Fault → Type 0
IsReplayed config manner has closing old new result =
    MatchResult result
    (λ done. HasRun config manner has
    (λ s r. IsRunOf s manner r has closing (Appends old new)))
    (IsReplayFault config manner has closing old new)

-- settings and script are free of faults, and this holds of a run of the script
pub record IsScripted (config text : List ℕ)
    (IsSo : Settings → List Directive → Type 0) : Type 0 where
  pub settings : Settings
  pub script : List Directive
  pub read_config : IsReadOfText config (Ok settings)
  pub read_script : IsScriptOf settings text (Ok script)
  pub so : IsSo settings script

-- The run of the script ended, and its whole text was printed, or a beginning of that if the output
-- failed. Or memory was refused: before anything was printed, or in mid-run, and then a beginning
-- of the lines of its actions was.
abbrev pub IsSimulationFault : Manner → Settings → List Directive → (old new : Option (List ℕ))
    → Fault → Type 0
IsSimulationFault manner settings script old new Device =
    IsCutShortIn manner settings script old new
IsSimulationFault manner settings script old new NoMemory =
    Keeps old new ⊎ IsStoppedIn manner settings script old new
IsSimulationFault manner settings script old new _ = ⊥

abbrev pub IsSimulationOf : Manner → Settings → List Directive → (old new : Option (List ℕ))
    → Result (Unit {0}) Fault → Type 0
IsSimulationOf manner settings script old new result =
    MatchResult result (λ done. IsSimulatedIn manner settings script old new)
    (IsSimulationFault manner settings script old new)

-- Settings are judged before the script, and both before anything is printed.
abbrev pub IsScriptFault : Manner → List ℕ → List ℕ → (old new : Option (List ℕ)) → Fault → Type 0
IsScriptFault manner config text old new (Config why) =
    IsReadOfText config (Err why) × Keeps old new
IsScriptFault manner config text old new (Script n) =
    ((s : Settings) × (IsReadOfText config (Ok s) × IsScriptOf s text (Err (WrongLine n))))
    × Keeps old new
IsScriptFault manner config text old new Device =
    IsScripted config text (λ c ds. IsCutShortIn manner c ds old new)
IsScriptFault manner config text old new NoMemory =
    Keeps old new ⊎ IsScripted config text (λ c ds. IsStoppedIn manner c ds old new)
IsScriptFault manner config text old new _ = ⊥

abbrev pub IsSimulatedBy : Manner → List ℕ → List ℕ → (old new : Option (List ℕ))
    → Result (Unit {0}) Fault → Type 0
IsSimulatedBy manner config text old new result =
    MatchResult result (λ done. IsScripted config text (λ c ds. IsSimulatedIn manner c ds old new))
    (IsScriptFault manner config text old new)

-- a run prints its text while it goes on, and ends so
pub record Runs (IsRunning : (old new : Option (List ℕ)) → Result (Unit {0}) Fault → Type 0)
    (old new : Option (List ℕ)) (exit : ℕ) : Type 0 where
  pub result : Result (Unit {0}) Fault
  pub ran : IsRunning old new result
  pub status : exit ≡ status_of_end result

-- what a command does to the output
abbrev pub DoesJob : Job → (old new : Option (List ℕ)) → (exit : ℕ) → Type 0
DoesJob (Show101 sizes hex words) = GivesAnswer (IsShown101 words sizes.now hex.now)
DoesJob (Show104 hex words) = GivesAnswer (IsShown104 words hex.now)
DoesJob (Sim config script manner) = Runs (IsSimulatedBy manner config.now script.now)

-- the same, of an output whose octets are these before and after, and with this exit status
pub record Performs (job : Job) (old new : Option (List ℕ)) (exit : ℕ) : Type 0 where
  pub does : DoesJob job old new exit
