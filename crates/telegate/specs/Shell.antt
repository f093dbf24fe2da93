-- What the program does with its words and with the files that they name (this gateway's own
-- profile).
use Rattle.std.specs.Prelude.{◌≡◌, ◌⊎◌, ℕ, Bool, List, [], ◌∷◌, ◌++◌, Option, Some, None, Result}
use Rattle.std.specs.Prelude.{codes}
use Rattle.std.specs.Io.KnownBytes.{Keeps}
use Rattle.clap.specs.Words.{Text, HasKind, fault_of, kind_of, subcommand_of}
use Rattle.clap.specs.declared.error.Error.{Error}
use Rattle.clap.specs.declared.error.kind.ErrorKind.{ErrorKind}
use Rattle.clap.specs.declared.error.kind.ErrorKind.TheVariants as kind
use Rattle.settings.specs.declared.site.Site.{Site as SiteFile}
use Rattle.state.specs.declared.files.reading.Stood.{Stood}
use Rattle.telegate.specs.Answers.{IsReplayed, Performs, Runs}
use Rattle.telegate.specs.Given.{GivesAnswer}
use Rattle.telegate.specs.Asking.{IsUnanswered, ShowsStatus}
use Rattle.telegate.specs.Audits.{IsAuditedBy}
use Rattle.telegate.specs.Captures.{IsCapturedBy}
use Rattle.telegate.specs.Faults.{status_of_end}
use Rattle.telegate.specs.Checks.{IsCheckDone, IsRefusalAnswered}
use Rattle.telegate.specs.CommandLine.{IsRequestOf, text_of, program}
use Rattle.telegate.specs.Controlled.{EndsAsSaid}
use Rattle.telegate.specs.Wishes.{CameAt, HasRunAsAsked, HasRunAsSaid, HasRunLive, HasWrongSite}
use Rattle.telegate.specs.Wishes.{IsFirstSiteFault, IsGoodSite, site_files}
use Rattle.telegate.specs.Manners.{manner_of}
use Rattle.telegate.specs.Piping.{HasPiped, PipesLine}
use Rattle.telegate.specs.Stood.{IsStateShown}
use Rattle.telegate.specs.declared.manner.Manner.{Manner}
use Rattle.telegate.specs.declared.piping.Piped.TheVariants.{Connection}
use Rattle.telegate.specs.declared.check.Checking.{Checking}
use Rattle.telegate.specs.declared.closing.Closing.{Closing}
use Rattle.telegate.specs.declared.host.Wishes.{Wishes}
use Rattle.telegate.specs.declared.run_words.RunWords.{RunWords}
use Rattle.telegate.specs.declared.command_line.CommandRequest.{CommandRequest}
use Rattle.telegate.specs.declared.command_line.CommandRequest.TheVariants.{Show101, Show104, Check}
use Rattle.telegate.specs.declared.command_line.CommandRequest.TheVariants.{Replay, Sim, Audit, Run}
use Rattle.telegate.specs.declared.command_line.CommandRequest.TheVariants.{Status, State, Capture}
use Rattle.telegate.specs.declared.command_line.CommandRequest.TheVariants.{Stations, Centre}
use Rattle.telegate.specs.declared.fault.Fault.{Fault}
use Rattle.telegate.specs.declared.host.Unread.{Unread}
use Rattle.telegate.specs.declared.host.Unread.TheVariants.{Unreadable, NoMemory}
use Rattle.telegate.specs.declared.job.Job.{Job}
use Rattle.telegate.specs.declared.job.Job.TheVariants as job

-- Files

-- the job of a request, with what its files have in place of their names
abbrev pub IsJobOf : (has : Text → List ℕ → Type 0) → (colours : Bool) → CommandRequest → Job
    → Type 0
IsJobOf has colours (Show101 sizes hex words) (job.Show101 s h w) =
    (s.now ≡ sizes.now) × (h.now ≡ hex.now) × (w ≡ words)
IsJobOf has colours (Show104 hex words) (job.Show104 h w) = (h.now ≡ hex.now) × (w ≡ words)
IsJobOf has colours (Sim config script words color) (job.Sim c s manner) =
    has config.now c.now × has script.now s.now × (manner ≡ manner_of words color colours)
IsJobOf has colours _ _ = ⊥

-- what is read first if a site's file is judged before the settings are read
abbrev pub first_file : (site : Option Text) → (config : Text) → Text
first_file None config = config
first_file (Some site) config = site

-- the names of the files that are read before anything is judged, in the order of the words
abbrev pub files_of : CommandRequest → List Text
files_of (Show101 sizes hex words) = []
files_of (Show104 hex words) = []
files_of (Check config site live explain) = first_file (text_of site) config.now ∷ []
files_of (Replay config trace left counts words color) = config.now ∷ trace.now ∷ []
files_of (Sim config script words color) = config.now ∷ script.now ∷ []
files_of (Audit config text) = config.now ∷ text.now ∷ []
files_of (Run config words) = site_files (text_of words.site) ++ config.now ∷ []
files_of (Status place json) = []
files_of (State directory config reports) = site_files (text_of config)
files_of (Capture config text) = config.now ∷ text.now ∷ []
files_of (Stations config script words) = config.now ∷ script.now ∷ []
files_of (Centre words) = []

-- this is the first of the files that can't be read
abbrev pub IsFirstUnread : (has : Text → List ℕ → Type 0) → (lacks : Text → Type 0) → List Text
    → Text → Type 0
IsFirstUnread has lacks [] name = ⊥
IsFirstUnread has lacks (file ∷ files) name =
    ((name ≡ file) × lacks file)
    ⊎ (((octets : List ℕ) × has file octets) × IsFirstUnread has lacks files name)

abbrev pub unreadable_line : Text → List ℕ
unreadable_line name = codes "cannot read " ++ name ++ 10 ∷ []

abbrev pub status_unread : Unread → ℕ
status_unread Unreadable = 3
status_unread NoMemory = 4

-- the files are read no further, and why
abbrev pub IsUnread : (has : Text → List ℕ → Type 0) → (lacks : Text → Type 0) → List Text → Text
    → Unread → Type 0
IsUnread has lacks files name Unreadable = IsFirstUnread has lacks files name
IsUnread has lacks files name NoMemory = Unit {0}

-- one of these files couldn't be read, and the exit status says why
pub record IsNotRead (has : Text → List ℕ → Type 0) (lacks : Text → Type 0) (files : List Text)
    (exit : ℕ) : Type 0 where
  pub name : Text
  pub why : Unread
  pub unread : IsUnread has lacks files name why
  pub status : exit ≡ status_unread why

-- Commands

-- the command's job was done
pub record IsJobDone (has : Text → List ℕ → Type 0) (colours : Bool) (request : CommandRequest)
    (old new : Option (List ℕ)) (exit : ℕ) : Type 0 where
  pub job : Job
  pub of : IsJobOf has colours request job
  pub done : Performs job old new exit

-- the settings of this name were judged
pub record HasChecked (has : Text → List ℕ → Type 0) (config : Text) (how : Checking)
    (old new : Option (List ℕ)) (exit : ℕ) : Type 0 where
  pub octets : List ℕ
  pub read : has config octets
  pub done : IsCheckDone octets how old new exit

-- or they couldn't be read, and nothing was printed
abbrev pub ChecksFile : (has : Text → List ℕ → Type 0) → (lacks : Text → Type 0) → (config : Text)
    → Checking → (old new : Option (List ℕ)) → (exit : ℕ) → Type 0
ChecksFile has lacks config how old new exit =
    HasChecked has config how old new exit
    ⊎ (IsNotRead has lacks (config ∷ []) exit × Keeps old new)

-- the file of a site is good
pub record HasGoodSite (has : Text → List ℕ → Type 0) (site : Text) : Type 0 where
  pub octets : List ℕ
  pub read : has site octets
  pub good : IsGoodSite octets

-- it is refused by its first fault, which is written
pub record HasRefusedSite (has : Text → List ℕ → Type 0) (site : Text) (explain : Bool)
    (old new : Option (List ℕ)) (exit : ℕ) : Type 0 where
  pub octets : List ℕ
  pub read : has site octets
  pub fault : Fault
  pub is : IsFirstSiteFault octets fault
  pub answered : IsRefusalAnswered explain octets fault old new exit

-- Settings are judged. If a site's file is named, that is judged before them, and they are judged
-- only if it is good.
abbrev pub HasCheckedBehind : (has : Text → List ℕ → Type 0) → (lacks : Text → Type 0)
    → (site : Option Text) → (config : Text) → Checking → (old new : Option (List ℕ))
    → (exit : ℕ) → Type 0
HasCheckedBehind has lacks None config how old new exit = HasChecked has config how old new exit
HasCheckedBehind has lacks (Some site) config how old new exit =
    HasRefusedSite has site how.explain old new exit
    ⊎ (HasGoodSite has site × ChecksFile has lacks config how old new exit)

-- or what is read first can't be read, and nothing was printed
abbrev pub ChecksBehind : (has : Text → List ℕ → Type 0) → (lacks : Text → Type 0)
    → (site : Option Text) → (config : Text) → Checking → (old new : Option (List ℕ))
    → (exit : ℕ) → Type 0
ChecksBehind has lacks site config how old new exit =
    HasCheckedBehind has lacks site config how old new exit
    ⊎ (IsNotRead has lacks (first_file site config ∷ []) exit × Keeps old new)

-- A trace was replayed by settings of these octets; or it couldn't be read, and nothing was
-- printed.
abbrev pub ReplaysFile : (has : Text → List ℕ → Type 0) → (lacks : Text → Type 0) → (trace : Text)
    → (config : List ℕ) → Manner → Closing → (old new : Option (List ℕ)) → (exit : ℕ) → Type 0
ReplaysFile has lacks trace config manner closing old new exit =
    Runs (IsReplayed config manner (has trace) closing) old new exit
    ⊎ (IsNotRead has lacks (trace ∷ []) exit × Keeps old new)

-- the same by the octets of a file
pub record HasReplayed (has : Text → List ℕ → Type 0) (config trace : Text) (manner : Manner)
    (closing : Closing) (old new : Option (List ℕ)) (exit : ℕ) : Type 0 where
  pub octets : List ℕ
  pub read : has config octets
  pub ran : Runs (IsReplayed octets manner (has trace) closing) old new exit

-- the record of this name was audited by settings of these octets
abbrev pub AuditsFile : (has : Text → List ℕ → Type 0) → (text : Text) → (config : List ℕ)
    → (old new : Option (List ℕ)) → (exit : ℕ) → Type 0
AuditsFile has text config = GivesAnswer (IsAuditedBy config [] (has text))

-- the same by the octets of a file
pub record HasAudited (has : Text → List ℕ → Type 0) (config text : Text)
    (old new : Option (List ℕ)) (exit : ℕ) : Type 0 where
  pub octets : List ℕ
  pub read : has config octets
  pub audited : AuditsFile has text octets old new exit

-- the capture of a record was made by the octets of a file
pub record HasCaptured (has : Text → List ℕ → Type 0) (config text : Text)
    (old new : Option (List ℕ)) (exit : ℕ) : Type 0 where
  pub octets : List ℕ
  pub read : has config octets
  pub captured : Runs (IsCapturedBy octets (has text)) old new exit

-- these are the octets of a file, if one is named
abbrev pub IsGivenIn : (has : Text → List ℕ → Type 0) → Option Text → Option (List ℕ) → Type 0
IsGivenIn has None given = given ≡ None
IsGivenIn has (Some name) given =
    (octets : List ℕ) × has name octets × (given ≡ Some octets)

-- what stands in the directory of this name was answered, beside these settings, with what is
-- queued if it is wanted; or it can't be read, and nothing was printed
abbrev pub ShowsDirectory : (lacks : Text → Type 0) → (stands : Text → Stood → Type 0)
    → (directory : Text) → (are_wanted : Bool) → (given : Option (List ℕ))
    → (old new : Option (List ℕ)) → (exit : ℕ) → Type 0
ShowsDirectory lacks stands directory are_wanted given old new exit =
    GivesAnswer (IsStateShown (stands directory) are_wanted given) old new exit
    ⊎ (IsUnanswered lacks directory exit × Keeps old new)

-- the same, by the octets of a file, if one is named
pub record HasShownState (has : Text → List ℕ → Type 0) (lacks : Text → Type 0)
    (stands : Text → Stood → Type 0) (directory : Text) (config : Option Text)
    (are_wanted : Bool) (old new : Option (List ℕ)) (exit : ℕ) : Type 0 where
  pub given : Option (List ℕ)
  pub read : IsGivenIn has config given
  pub shown : ShowsDirectory lacks stands directory are_wanted given old new exit

-- or that can't be read, and nothing was printed
abbrev pub ShowsState : (has : Text → List ℕ → Type 0) → (lacks : Text → Type 0)
    → (stands : Text → Stood → Type 0) → (directory : Text) → (config : Option Text)
    → (are_wanted : Bool) → (old new : Option (List ℕ)) → (exit : ℕ) → Type 0
ShowsState has lacks stands directory config are_wanted old new exit =
    HasShownState has lacks stands directory config are_wanted old new exit
    ⊎ (IsNotRead has lacks (site_files config) exit × Keeps old new)

-- The outstations of a script of these octets were played by settings of these, and the exit status
-- says how that ended.
pub record HaveEnded (played : List ℕ → List ℕ → Result (Unit {0}) Fault → Type 0)
    (config script : List ℕ) (exit : ℕ) : Type 0 where
  pub ended : Result (Unit {0}) Fault
  pub play : played config script ended
  pub status : exit ≡ status_of_end ended

-- the same by the octets of two files
pub record HavePlayedFiles (has : Text → List ℕ → Type 0)
    (played : List ℕ → List ℕ → Result (Unit {0}) Fault → Type 0) (config script : Text)
    (exit : ℕ) : Type 0 where
  pub octets : List ℕ
  pub text : List ℕ
  pub read_config : has config octets
  pub read_script : has script text
  pub came : HaveEnded played octets text exit

-- or one of them couldn't be read
abbrev pub PlayFiles : (has : Text → List ℕ → Type 0) → (lacks : Text → Type 0)
    → (played : List ℕ → List ℕ → Result (Unit {0}) Fault → Type 0) → (config script : Text)
    → (exit : ℕ) → Type 0
PlayFiles has lacks played config script exit =
    HavePlayedFiles has played config script exit
    ⊎ IsNotRead has lacks (config ∷ script ∷ []) exit

-- the gateway ran live by the octets of a file, or the file couldn't be read
abbrev pub RunsFile : (has : Text → List ℕ → Type 0) → (lacks : Text → Type 0)
    → (ran : List ℕ → Wishes → Result (Unit {0}) Fault → Type 0) →
    (config : Text) → (wishes : Wishes) → (exit : ℕ) → Type 0
RunsFile has lacks ran config wishes exit =
    HasRunLive has ran config wishes exit ⊎ IsNotRead has lacks (config ∷ []) exit

-- what came of the words of a live run at this site, or its settings couldn't be read
abbrev pub RunsAtSite : (has : Text → List ℕ → Type 0) → (lacks : Text → Type 0)
    → (ran : List ℕ → Wishes → Result (Unit {0}) Fault → Type 0) → (config : Text) → RunWords
    → SiteFile → (exit : ℕ) → Type 0
RunsAtSite has lacks ran config words site exit =
    CameAt has ran config words site exit ⊎ IsNotRead has lacks (config ∷ []) exit

-- there is no site: its file can't be read, or is refused
abbrev pub IsNoSite : (has : Text → List ℕ → Type 0) → (lacks : Text → Type 0)
    → (site : Option Text) → (exit : ℕ) → Type 0
IsNoSite has lacks site exit =
    HasWrongSite has site exit ⊎ IsNotRead has lacks (site_files site) exit

-- what came of the words of a live run, or one of its files couldn't be read
abbrev pub RunsAsSaid : (has : Text → List ℕ → Type 0) → (lacks : Text → Type 0)
    → (ran : List ℕ → Wishes → Result (Unit {0}) Fault → Type 0) → (config : Text) → RunWords
    → (exit : ℕ) → Type 0
RunsAsSaid has lacks ran config words exit =
    HasRunAsSaid has ran config words exit
    ⊎ IsNotRead has lacks (site_files (text_of words.site) ++ config ∷ []) exit

-- the gateway ran live, as a request asks for it
abbrev pub IsRunOf : (has : Text → List ℕ → Type 0)
    → (ran : List ℕ → Wishes → Result (Unit {0}) Fault → Type 0) → CommandRequest → (exit : ℕ)
    → Type 0
IsRunOf has ran (Run config words) exit = HasRunAsAsked has ran config.now words exit
IsRunOf has ran request exit = ⊥

-- the same, as words ask for it
pub record IsRunAskedFor (has : Text → List ℕ → Type 0)
    (ran : List ℕ → Wishes → Result (Unit {0}) Fault → Type 0) (words : List Text)
    (exit : ℕ) : Type 0 where
  pub request : CommandRequest
  pub asked : IsRequestOf (subcommand_of program words) (Some request)
  pub run : IsRunOf has ran request exit

-- the name of standard input
abbrev pub input : Text
input = codes "-"

-- a frame is shown, or those of standard input if its name stands for octets
pub record IsShownOrPiped (hex : Text) (IsShown IsPiped : Type 0) : Type 0 where
  pub piped : hex ≡ input → IsPiped
  pub shown : (hex ≡ input → ⊥) → IsShown

-- What a command is to do if its files can be read. A live run prints nothing but its record, which
-- the host writes, as it writes what passes at outstations that are played.
abbrev pub IsDone : (has : Text → List ℕ → Type 0) → (lacks : Text → Type 0)
    → (ran : List ℕ → Wishes → Result (Unit {0}) Fault → Type 0)
    → (answered : Text → List ℕ → List ℕ → Type 0) → (silent : Text → Type 0)
    → (played : List ℕ → List ℕ → Result (Unit {0}) Fault → Type 0)
    → (stands : Text → Stood → Type 0) → (colours : Bool) → CommandRequest
    → (old new : Option (List ℕ)) → (exit : ℕ) → Type 0
IsDone has lacks ran answered silent played stands colours (Run config words) old new exit =
    HasRunAsSaid has ran config.now words exit × Keeps old new
IsDone has lacks ran answered silent played stands colours (Check config site live explain) old new
    exit =
    HasCheckedBehind has lacks (text_of site) config.now
    (record { live = live; explain = explain }) old new exit
IsDone has lacks ran answered silent played stands colours
    (Replay config trace left counts words color)
    old new exit =
    HasReplayed has config.now trace.now (manner_of words color colours)
    (record { left = left; counts = counts }) old new exit
IsDone has lacks ran answered silent played stands colours (Audit config text) old new exit =
    HasAudited has config.now text.now old new exit
IsDone has lacks ran answered silent played stands colours (Show101 sizes hex words) old new exit =
    IsShownOrPiped hex.now (IsJobDone has colours (Show101 sizes hex words) old new exit)
    (PipesLine sizes.now words (has input) old new exit)
IsDone has lacks ran answered silent played stands colours (Show104 hex words) old new exit =
    IsShownOrPiped hex.now (IsJobDone has colours (Show104 hex words) old new exit)
    (HasPiped Connection words (has input) old new exit)
IsDone has lacks ran answered silent played stands colours (Status place json) old new exit =
    ShowsStatus answered silent place.now json old new exit
IsDone has lacks ran answered silent played stands colours (State directory config reports) old new
    exit =
    HasShownState has lacks stands directory.now (text_of config) reports old new exit
IsDone has lacks ran answered silent played stands colours (Capture config text) old new exit =
    HasCaptured has config.now text.now old new exit
IsDone has lacks ran answered silent played stands colours (Stations config script words) old new
    exit =
    HavePlayedFiles has played config.now script.now exit × Keeps old new
IsDone has lacks ran answered silent played stands colours (Centre words) old new exit =
    EndsAsSaid words.json old new exit
IsDone has lacks ran answered silent played stands colours request old new exit =
    IsJobDone has colours request old new exit

-- the command is done, or a file couldn't be read and nothing was printed
abbrev pub Responds : (has : Text → List ℕ → Type 0) → (lacks : Text → Type 0)
    → (ran : List ℕ → Wishes → Result (Unit {0}) Fault → Type 0)
    → (answered : Text → List ℕ → List ℕ → Type 0) → (silent : Text → Type 0)
    → (played : List ℕ → List ℕ → Result (Unit {0}) Fault → Type 0)
    → (stands : Text → Stood → Type 0) → (colours : Bool) → CommandRequest
    → (old new : Option (List ℕ)) → (exit : ℕ) → Type 0
Responds has lacks ran answered silent played stands colours request old new exit =
    IsDone has lacks ran answered silent played stands colours request old new exit
    ⊎ (IsNotRead has lacks (files_of request) exit × Keeps old new)

-- Words

-- help and the version, 0; wrong words, 2; no memory, 4
abbrev pub status_of_kind : ErrorKind → ℕ
status_of_kind kind.OutOfMemory = 4
status_of_kind kind.DisplayHelp = 0
status_of_kind kind.DisplayVersion = 0
status_of_kind _ = 2

-- what the words gave in place of a command was written, or couldn't be written, 3
abbrev pub IsUsageAnswered : ErrorKind → (exit : ℕ) → Type 0
IsUsageAnswered kind exit = (exit ≡ status_of_kind kind) ⊎ (exit ≡ 3)

-- in place of a command nothing is printed but help and the version
abbrev pub IsSilent : ErrorKind → (old new : Option (List ℕ)) → Type 0
IsSilent kind.DisplayHelp old new = Unit {0}
IsSilent kind.DisplayVersion old new = Unit {0}
IsSilent _ old new = Keeps old new

-- the words ask for a command, and it is done
pub record IsAskedAndDone (has : Text → List ℕ → Type 0) (lacks : Text → Type 0)
    (ran : List ℕ → Wishes → Result (Unit {0}) Fault → Type 0)
    (answered : Text → List ℕ → List ℕ → Type 0) (silent : Text → Type 0)
    (played : List ℕ → List ℕ → Result (Unit {0}) Fault → Type 0)
    (stands : Text → Stood → Type 0) (colours : Bool) (words : List Text)
    (old new : Option (List ℕ)) (exit : ℕ) : Type 0 where
  pub request : CommandRequest
  pub asked : IsRequestOf (subcommand_of program words) (Some request)
  pub done : Responds has lacks ran answered silent played stands colours request old new exit

-- the words are wrong, or ask for help or the version; wrong ones print nothing
pub record IsUsage (words : List Text) (old new : Option (List ℕ)) (exit : ℕ) : Type 0 where
  pub fault : Error
  pub kind : HasKind (fault_of program words) fault
  pub answered : IsUsageAnswered (kind_of fault) exit
  pub silent : IsSilent (kind_of fault) old new

-- the words name no command with all that it needs, 2
abbrev pub IsNoRequest : List Text → (old new : Option (List ℕ)) → (exit : ℕ) → Type 0
IsNoRequest words old new exit =
    IsRequestOf (subcommand_of program words) None × (exit ≡ 2) × Keeps old new

abbrev pub Obeys : (has : Text → List ℕ → Type 0) → (lacks : Text → Type 0)
    → (ran : List ℕ → Wishes → Result (Unit {0}) Fault → Type 0)
    → (answered : Text → List ℕ → List ℕ → Type 0) → (silent : Text → Type 0)
    → (played : List ℕ → List ℕ → Result (Unit {0}) Fault → Type 0)
    → (stands : Text → Stood → Type 0) → (colours : Bool) → (words : List Text)
    → (old new : Option (List ℕ)) → (exit : ℕ) → Type 0
Obeys has lacks ran answered silent played stands colours words old new exit =
    IsAskedAndDone has lacks ran answered silent played stands colours words old new exit
    ⊎ (IsUsage words old new exit ⊎ IsNoRequest words old new exit)
