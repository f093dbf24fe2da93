-- What is wished of a live run, by its words and by the file of its site (this gateway's own
-- profile).
use Rattle.std.specs.Prelude.{◌≡◌, ◌⊎◌, ℕ, Bool, true, false, not, ◌||◌, List, [], ◌∷◌, Contains}
use Rattle.std.specs.Prelude.{Option, Some, None, MatchOption, Result, codes}
use Rattle.std.specs.Option.{option_or}
use Rattle.clap.specs.Words.{Text}
use Rattle.live.specs.declared.allow_list.AllowList.{AllowList}
use Rattle.settings.specs.Site.{IsFaultOfText, IsSiteOf, SiteNames, SiteValues, empty_site}
use Rattle.settings.specs.Site.{names_of, site_of}
use Rattle.settings.specs.declared.site.fault.SiteFault.TheVariants as why
use Rattle.settings.specs.declared.site.Site.{Site as SiteFile}
use Rattle.telegate.specs.CommandLine.{text_of, texts_of}
use Rattle.telegate.specs.Faults.{status_of, status_of_end}
use Rattle.telegate.specs.AllowLists.{IsAllowListOf, IsAllowListFault, WritesNone}
use Rattle.telegate.specs.declared.fault.Fault.{Fault}
use Rattle.telegate.specs.declared.fault.Fault.TheVariants.{NoMemory, NoState, Site}
use Rattle.telegate.specs.declared.host.Wishes.{Wishes}
use Rattle.telegate.specs.declared.run_words.RunWords.{RunWords}

-- What is said

-- what is said of a live run: by words, or by the file of a site
pub record Said : Type 0 where
  pub redial : Bool
  pub log : Bool
  pub log_severity : Bool
  pub recorded : Bool
  pub state : Option Text
  pub or_stop : Bool
  pub allow : Option (List Text)
  pub status : Option Text

abbrev pub said_by : RunWords → Said
said_by words = record {
  redial = words.redial;
  log = words.log;
  log_severity = words.log_severity;
  recorded = words.«record»;
  state = text_of words.state;
  or_stop = words.state_or_stop;
  allow = texts_of words.allow;
  status = text_of words.status;
}

abbrev pub said_in : SiteValues → Said
said_in site = record {
  redial = site.flags.redial;
  log = site.flags.log;
  log_severity = site.flags.log_severity;
  recorded = site.flags.«record»;
  state = site.places.state;
  or_stop = site.flags.state_or_stop;
  allow = site.places.allow;
  status = site.places.status;
}

-- what words say wins, and a flag is set if either says so
abbrev pub said_of : (words site : Said) → Said
said_of words site = record {
  redial = words.redial || site.redial;
  log = words.log || site.log;
  log_severity = words.log_severity || site.log_severity;
  recorded = words.recorded || site.recorded;
  state = option_or words.state site.state;
  or_stop = words.or_stop || site.or_stop;
  allow = option_or words.allow site.allow;
  status = option_or words.status site.status;
}

-- nothing
abbrev pub nothing_said : Said
nothing_said = record {
  redial = false;
  log = false;
  log_severity = false;
  recorded = false;
  state = None;
  or_stop = false;
  allow = None;
  status = None;
}

-- the run is to stop if the state can't be kept, and none is named
abbrev pub lacks_state : (state : Option Text) → (or_stop : Bool) → Bool
lacks_state None or_stop = or_stop
lacks_state (Some name) or_stop = false

-- the wishes are what is said, and the names are these
pub record AreWishes (said : Said) (names : SiteNames) (wishes : Wishes) : Type 0 where
  pub redials : wishes.redial ≡ said.redial
  pub logs : wishes.log ≡ said.log
  pub severities : wishes.log_severity ≡ said.log_severity
  pub records : wishes.«record» ≡ said.recorded
  pub keeps : text_of wishes.state ≡ said.state
  pub bears : wishes.bears_loss ≡ not said.or_stop
  pub is_named : lacks_state said.state said.or_stop ≡ false
  pub allow_list : IsAllowListOf said.allow wishes.allow_list
  pub shows : text_of wishes.status ≡ said.status
  pub called : names_of wishes.names.now ≡ names

-- Faults

-- this key of the site's file is wrong
abbrev pub IsKeyFault : Text → Fault → Type 0
IsKeyFault key (Site (why.Key path)) = path.now ≡ key
IsKeyFault key _ = ⊥

-- no state is named to be kept: the fault of the word, or else of the key
abbrev pub IsStateFault : (by_words : Bool) → Fault → Type 0
IsStateFault true fault = fault ≡ NoState
IsStateFault false fault = IsKeyFault (codes "state_or_stop") fault

-- one of the texts of the site's file is no address
abbrev pub IsNoSiteAllowList : Option (List Text) → Fault → Type 0
IsNoSiteAllowList texts NoMemory = Unit {0}
IsNoSiteAllowList texts fault = IsKeyFault (codes "allow") fault
    × MatchOption texts ⊥ (λ ts. (text : Text) × (Contains ts text × WritesNone text))

-- one of the words is none, or, if they name nobody, one of the texts of the site's file
abbrev pub IsNoAllowList : (words site : Option (List Text)) → Fault → Type 0
IsNoAllowList None site fault = IsNoSiteAllowList site fault
IsNoAllowList (Some words) site fault = IsAllowListFault (Some words) fault

-- what is said can't be: a state isn't named, or, if it is, the allow list has no addresses
abbrev pub IsWishFault : (words site : Said) → Fault → Type 0
IsWishFault words site fault =
    let said = said_of words site in
    (IsStateFault words.or_stop fault × (lacks_state said.state said.or_stop ≡ true))
    ⊎ (IsNoAllowList words.allow site.allow fault × (lacks_state said.state said.or_stop ≡ false))

-- The file of a site

-- the names of the files that are read before the settings
abbrev pub site_files : (site : Option Text) → List Text
site_files None = []
site_files (Some name) = name ∷ []

-- the site is what its file gives; if none is named, nothing is said
abbrev pub IsSiteIn : (has : Text → List ℕ → Type 0) → Option Text → SiteFile → Type 0
IsSiteIn has None site = site_of site ≡ empty_site
IsSiteIn has (Some name) site = (octets : List ℕ) × (has name octets × IsSiteOf octets site)

-- its file is refused by the first fault
abbrev pub IsSiteFault : List ℕ → Fault → Type 0
IsSiteFault text (Site why.NoMemory) = ⊥
IsSiteFault text (Site fault) = IsFaultOfText text fault
IsSiteFault text NoMemory = Unit {0}
IsSiteFault text _ = ⊥

-- the file of the site is refused, and no other was read
pub record HasWrongSite (has : Text → List ℕ → Type 0) (site : Option Text) (exit : ℕ)
    : Type 0 where
  pub octets : List ℕ
  pub read : MatchOption site ⊥ (λ name. has name octets)
  pub fault : Fault
  pub is : IsSiteFault octets fault
  pub status : exit ≡ status_of fault

-- What a site's file says can be, if words say nothing: a state is named if it has to be kept, and
-- the texts of `allow` are addresses.
pub record CanBe (said : Said) : Type 0 where
  pub is_named : lacks_state said.state said.or_stop ≡ false
  pub allow_list : AllowList
  pub are : IsAllowListOf said.allow allow_list

-- the octets are a site's file without a fault
pub record IsGoodSite (octets : List ℕ) : Type 0 where
  pub site : SiteFile
  pub is : IsSiteOf octets site
  pub can : CanBe (said_in (site_of site))

-- what the site's file says can't be
pub record IsUnfit (octets : List ℕ) (fault : Fault) : Type 0 where
  pub site : SiteFile
  pub is : IsSiteOf octets site
  pub unfit : IsWishFault nothing_said (said_in (site_of site)) fault

-- its first fault, if it stands alone: a wrong or an unknown key, or else that
abbrev pub IsFirstSiteFault : List ℕ → Fault → Type 0
IsFirstSiteFault octets fault = IsSiteFault octets fault ⊎ IsUnfit octets fault

-- Runs

-- The gateway ran live by settings of these octets, and the exit status says how that ended.
pub record HasEndedLive (ran : List ℕ → Wishes → Result (Unit {0}) Fault → Type 0)
    (config : List ℕ) (wishes : Wishes) (exit : ℕ) : Type 0 where
  pub ended : Result (Unit {0}) Fault
  pub run : ran config wishes ended
  pub status : exit ≡ status_of_end ended

-- the same by the octets of a file
pub record HasRunLive (has : Text → List ℕ → Type 0)
    (ran : List ℕ → Wishes → Result (Unit {0}) Fault → Type 0)
    (config : Text) (wishes : Wishes) (exit : ℕ) : Type 0 where
  pub octets : List ℕ
  pub read : has config octets
  pub live : HasEndedLive ran octets wishes exit

-- the gateway ran live as the words and the site wish
pub record HasRunAsWished (has : Text → List ℕ → Type 0)
    (ran : List ℕ → Wishes → Result (Unit {0}) Fault → Type 0) (config : Text)
    (words : RunWords) (site : SiteFile) (exit : ℕ) : Type 0 where
  pub wishes : Wishes
  pub wished : AreWishes (said_of (said_by words) (said_in (site_of site)))
      (names_of site.names) wishes
  pub live : HasRunLive has ran config wishes exit

-- the same at the site whose file they name
pub record HasRunAsAsked (has : Text → List ℕ → Type 0)
    (ran : List ℕ → Wishes → Result (Unit {0}) Fault → Type 0) (config : Text)
    (words : RunWords) (exit : ℕ) : Type 0 where
  pub site : SiteFile
  pub is : IsSiteIn has (text_of words.site) site
  pub run : HasRunAsWished has ran config words site exit

-- what they wish for can't be, and the settings weren't read
pub record HasNoWishes (words : RunWords) (site : SiteFile) (exit : ℕ) : Type 0 where
  pub fault : Fault
  pub is : IsWishFault (said_by words) (said_in (site_of site)) fault
  pub status : exit ≡ status_of fault

-- what came of the words at this site
abbrev pub CameAt : (has : Text → List ℕ → Type 0)
    → (ran : List ℕ → Wishes → Result (Unit {0}) Fault → Type 0) → (config : Text) → RunWords
    → SiteFile → (exit : ℕ) → Type 0
CameAt has ran config words site exit =
    HasRunAsWished has ran config words site exit ⊎ HasNoWishes words site exit

-- what came of them at the site whose file they name
pub record HasRunAtSite (has : Text → List ℕ → Type 0)
    (ran : List ℕ → Wishes → Result (Unit {0}) Fault → Type 0) (config : Text)
    (words : RunWords) (exit : ℕ) : Type 0 where
  pub site : SiteFile
  pub is : IsSiteIn has (text_of words.site) site
  pub came : CameAt has ran config words site exit

-- what came of the words of a live run, if their files can be read
abbrev pub HasRunAsSaid : (has : Text → List ℕ → Type 0)
    → (ran : List ℕ → Wishes → Result (Unit {0}) Fault → Type 0) → (config : Text) → RunWords
    → (exit : ℕ) → Type 0
HasRunAsSaid has ran config words exit =
    HasRunAtSite has ran config words exit ⊎ HasWrongSite has (text_of words.site) exit
