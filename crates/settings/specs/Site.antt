-- A whole file of a site, up to the first wrong key; an unknown key is looked for after these (this
-- gateway's own profile). If `line` is no table, its first key is wrong.
use Rattle.std.specs.Prelude.{◌≡◌, ℕ, false, codes, List, [], ◌∷◌, ◌++◌, Option, Some, None}
use Rattle.std.specs.Prelude.{option_map, Result, Ok, Err, IsOk, MatchResult, Vec, String, map}
use Rattle.std.specs.Prelude.{string_bytes}
use Rattle.std.specs.declared.alloc.Global.{Global}
use Rattle.toml.specs.Data.{Data, Items, no_items, item, Members, as_array, as_str, get_member}
use Rattle.settings.specs.Faults.{Path, ◌>>=◌}
use Rattle.settings.specs.Keys.{flag_of, section_of}
use Rattle.settings.specs.Settings.{IsDocument, IsNoDocument}
use Rattle.settings.specs.SiteFaults.{IsWrongKeyOf}
use Rattle.settings.specs.SiteKeys.{text_of_key}
use Rattle.settings.specs.SiteNames.{Named, named, stations_of}
use Rattle.settings.specs.SiteUnknown.{unknown_key}
use Rattle.settings.specs.declared.site.fault.SiteFault.{SiteFault}
use Rattle.settings.specs.declared.site.fault.SiteFault.TheVariants.{NotToml, Key, Unknown}
use Rattle.settings.specs.declared.site.fault.SiteFault.TheVariants.{NoMemory}
use Rattle.settings.specs.declared.site.keys.TextForm.TheVariants.{Name, Address, Directory}
use Rattle.settings.specs.declared.site.names.Names.{Names}
use Rattle.settings.specs.declared.site.Flags.{Flags}
use Rattle.settings.specs.declared.site.Places.{Places}
use Rattle.settings.specs.declared.site.Site.{Site}

abbrev pub text_needed : Option (List ℕ) → Result (List ℕ) Path
text_needed None = Err (codes "allow")
text_needed (Some text) = Ok text

-- the texts before, and those of the items, each of which has to be one
abbrev pub texts_from : List (List ℕ) → Items → Result (List (List ℕ)) Path
texts_from before no_items = Ok before
texts_from before (item d ds) =
    text_needed (as_str d) >>= (λ t. texts_from (before ++ t ∷ []) ds)

abbrev pub list_of : Option Items → Result (Option (List (List ℕ))) Path
list_of None = Err (codes "allow")
list_of (Some ds) = texts_from [] ds >>= (λ texts. Ok (Some texts))

-- a list of texts, which may be missing
abbrev pub allow_of : Option Data → Result (Option (List (List ℕ))) Path
allow_of None = Ok None
allow_of (Some d) = list_of (as_array d)

-- what is said of a live run's places
pub record SitePlaces : Type 0 where
  pub allow : Option (List (List ℕ))
  pub status : Option (List ℕ)
  pub state : Option (List ℕ)

abbrev pub texts_in : Vec (String Global) Global → List (List ℕ)
texts_in v = map string_bytes v.items

abbrev pub places_of : Places → SitePlaces
places_of p = record {
  allow = option_map texts_in p.allow;
  status = option_map string_bytes p.status;
  state = option_map string_bytes p.state;
}

abbrev pub known_places : Members → Result SitePlaces Path
known_places root = do
  a ← allow_of (get_member (codes "allow") root)
  s ← text_of_key Address (codes "status") (codes "status") (Some root)
  d ← text_of_key Directory (codes "state") (codes "state") (Some root)
  Ok (record { allow = a; status = s; state = d })

abbrev pub flags_of : Members → Result Flags Path
flags_of root = do
  s ← flag_of (codes "state_or_stop") (codes "state_or_stop") (Some root)
  l ← flag_of (codes "log") (codes "log") (Some root)
  v ← flag_of (codes "log_severity") (codes "log_severity") (Some root)
  r ← flag_of (codes "redial") (codes "redial") (Some root)
  w ← flag_of (codes "record") (codes "record") (Some root)
  Ok (record { state_or_stop = s; log = l; log_severity = v; redial = r; «record» = w })

pub record SiteNames : Type 0 where
  pub line : Option (List ℕ)
  pub stations : List Named

abbrev pub names_of : Names → SiteNames
names_of n = record {
  line = option_map string_bytes n.line;
  stations = map named n.stations.items;
}

abbrev pub known_names : Members → Result SiteNames Path
known_names root = do
  t ← section_of (codes "line") (codes "line.name") root
  n ← text_of_key Name (codes "name") (codes "line.name") t
  s ← stations_of (get_member (codes "station") root)
  Ok (record { line = n; stations = s })

-- the values of a file
pub record SiteValues : Type 0 where
  pub places : SitePlaces
  pub flags : Flags
  pub names : SiteNames

abbrev pub site_of : Site → SiteValues
site_of s = record { places = places_of s.places; flags = s.flags; names = names_of s.names }

-- those of which nothing is said
abbrev pub empty_site : SiteValues
empty_site = record {
  places = record { allow = None; status = None; state = None };
  flags = record {
    state_or_stop = false;
    log = false;
    log_severity = false;
    redial = false;
    «record» = false;
  };
  names = record { line = None; stations = [] };
}

-- what a file gives, apart from keys that it may not have
abbrev pub known_site : Members → Result SiteValues Path
known_site root = do
  p ← known_places root
  f ← flags_of root
  n ← known_names root
  Ok (record { places = p; flags = f; names = n })

-- what was read, if no key is wrong; else the first wrong key
abbrev pub IsKnownOf : {A V : Type 0} → Result V Path → (A → V) → Result A SiteFault → Type 0
IsKnownOf known see result = MatchResult result (λ c. known ≡ Ok (see c)) (IsWrongKeyOf known)

abbrev pub AreTexts : Result (Option (List (List ℕ))) Path
    → Result (Option (Vec (String Global) Global)) SiteFault → Type 0
AreTexts known result = IsKnownOf known (λ v. option_map texts_in v) result

-- a wrong key is the first; an unknown one is reported if no key is wrong
abbrev pub IsFirstFault : Members → SiteFault → Type 0
IsFirstFault root NotToml = ⊥
IsFirstFault root (Key path) = known_site root ≡ Err path.now
IsFirstFault root (Unknown path) =
    IsOk (known_site root) × (unknown_key root ≡ Some (string_bytes path))
IsFirstFault root NoMemory = Unit {0}

-- what was read, if no key is wrong and none unknown; else the first fault
abbrev pub IsReadOf : Members → Result Site SiteFault → Type 0
IsReadOf root result =
    MatchResult result
    (λ s. (known_site root ≡ Ok (site_of s)) × (unknown_key root ≡ None))
    (IsFirstFault root)

-- why octets have no root
abbrev pub IsRootFault : List ℕ → SiteFault → Type 0
IsRootFault text NotToml = IsNoDocument text
IsRootFault text NoMemory = Unit {0}
IsRootFault text _ = ⊥

abbrev pub IsFaultOfDocument : List ℕ → SiteFault → Type 0
IsFaultOfDocument text e = (root : Members) × IsDocument text root × IsFirstFault root e

abbrev pub IsFaultOfText : List ℕ → SiteFault → Type 0
IsFaultOfText text NotToml = IsNoDocument text
IsFaultOfText text (Key path) = IsFaultOfDocument text (Key path)
IsFaultOfText text (Unknown path) = IsFaultOfDocument text (Unknown path)
IsFaultOfText text NoMemory = Unit {0}

-- what a document gives, which the octets are
pub record IsSiteOf (text : List ℕ) (site : Site) : Type 0 where
  pub root : Members
  pub document : IsDocument text root
  pub known : known_site root ≡ Ok (site_of site)
  pub all : unknown_key root ≡ None

-- the site of the document that the octets are, or the first fault
abbrev pub IsSiteRead : List ℕ → Result Site SiteFault → Type 0
IsSiteRead text result = MatchResult result (IsSiteOf text) (IsFaultOfText text)
